use Rattle.std.proofs.Common.{◌+◌, ◌≤◌, ◌-◌, ◌^◌, min}
use Rattle.segment_codec.specs.Lent.{segment_of}
use Rattle.ancestor_query.specs.Jumps.{IsBest}
use Rattle.ancestor_query.proofs.jump.next_lower.Given as goal

abbrev pub invariant-levels : goal.invariant-levels
invariant-levels g l = record {
  within : l.level ≤ 8;
  from : l.fn.level ≤ l.level;
  best : IsBest (g.T.SegmentTable.flats l.table) (g.T.SegmentTable.ending_at l.table) l.level l.id (segment_of l.best);
  counted : min l.fn.steps.taken (2 ^ 64 - 1) ≤ l.steps.taken;
  looked : min (l.fn.steps.taken + (l.level - l.fn.level)) (2 ^ 64 - 1) ≤ l.steps.taken;
  few : l.steps.taken + l.fn.level ≤ l.fn.steps.taken + l.level;
}

abbrev pub decreases-levels : goal.decreases-levels
decreases-levels g l = 8 - l.level
