use Rattle.std.proofs.Common.{◌≤◌, ◌-◌, length, take}
use Rattle.range_query.specs.Parts.{StandFrom}
use Rattle.range_query.proofs.child_walk.skip_from.Given as goal

abbrev pub invariant-skip : goal.invariant-skip
invariant-skip l = record {
  within : l.to ≤ length l.spans;
  passed : StandFrom l.id (take l.at l.spans) → StandFrom l.id (take l.to l.spans);
}

abbrev pub decreases-skip : goal.decreases-skip
decreases-skip l = length l.spans - l.to
