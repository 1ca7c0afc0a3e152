use Rattle.std.proofs.Common.{◌-◌, length}
use Rattle.gated_log.proofs.Scanning.{IsScanned}
use Rattle.gated_log.proofs.scan.find_gates.Given as goal

abbrev pub invariant-gates : goal.invariant-gates
invariant-gates l = IsScanned l.bytes l.open_gates.items l.at

abbrev pub decreases-gates : goal.decreases-gates
decreases-gates l = length l.bytes - l.at
