use Rattle.std.proofs.Common.{◌≤◌, ◌-◌, length}
use Rattle.remote_answers.proofs.path.child_by_edges.Given as goal

abbrev pub invariant-edges : goal.invariant-edges
invariant-edges g l = l.at ≤ length l.items

abbrev pub decreases-edges : goal.decreases-edges
decreases-edges g l = length l.items - l.at
