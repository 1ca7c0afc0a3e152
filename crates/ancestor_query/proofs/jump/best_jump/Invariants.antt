use Rattle.std.proofs.Common.{◌+◌, ◌≤◌, ◌-◌, ◌^◌, min}
use Rattle.segment_codec.specs.Lent.{segment_of}
use Rattle.ancestor_query.specs.Jumps.{IsBest}
use Rattle.ancestor_query.proofs.jump.best_jump.Given as goal

abbrev pub invariant-longer : goal.invariant-longer
invariant-longer g l = record {
  within : l.level ≤ 8;
  best : IsBest (g.T.SegmentTable.flats l.table) (g.T.SegmentTable.ending_at l.table) l.level l.id (segment_of l.best);
  counted : min l.fn.steps.taken (2 ^ 64 - 1) ≤ l.steps.taken;
  looked : min (l.fn.steps.taken + l.level) (2 ^ 64 - 1) ≤ l.steps.taken;
  few : l.steps.taken ≤ l.fn.steps.taken + l.level;
}

abbrev pub decreases-longer : goal.decreases-longer
decreases-longer g l = (segment_of l.best).low
