use Rattle.std.proofs.Common.{◌≤◌, length, drop}
use Rattle.range_query.specs.Parts.{StandBelow}
use Rattle.range_query.proofs.upward.skip_below.Given as goal

abbrev pub invariant-skip : goal.invariant-skip
invariant-skip l = record {
  within : l.to ≤ length l.spans;
  passed : StandBelow l.id (drop l.left l.spans) → StandBelow l.id (drop l.to l.spans);
}

abbrev pub decreases-skip : goal.decreases-skip
decreases-skip l = l.to
