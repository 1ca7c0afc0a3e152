use Rattle.std.proofs.Common.{length}
use Rattle.bench.proofs.names.lookups.count_found.Given as goal

abbrev pub decreases-names : goal.decreases-names
decreases-names l = length l.rest
