use Rattle.std.proofs.Common.{◌-◌}
use Rattle.high_segments.proofs.Keeping.{GrowsSoFar}
use Rattle.high_segments.proofs.grow.grow.Given as goal

abbrev pub invariant-groups : goal.invariant-groups
invariant-groups l = GrowsSoFar l.below l.at l.fn.run l.run l.fn.kept l.kept

abbrev pub decreases-groups : goal.decreases-groups
decreases-groups l = l.len - l.at
