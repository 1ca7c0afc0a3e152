use Rattle.std.proofs.Common.{◌≤◌}
use Rattle.range_query.proofs.between.skip_cuts.Given as goal

abbrev pub invariant-skip : goal.invariant-skip
invariant-skip l = l.to ≤ l.left

abbrev pub decreases-skip : goal.decreases-skip
decreases-skip l = l.to
