use Rattle.std.proofs.Common.{length, ◌≤◌}
use Rattle.name_index.proofs.index.count_kept.Given as goal

abbrev pub invariant-due : goal.invariant-due
invariant-due l = l.kept ≤ length l.runs

abbrev pub decreases-due : goal.decreases-due
decreases-due l = l.kept
