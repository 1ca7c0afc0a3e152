use Rattle.std.proofs.Common.{◌-◌, ◌≤◌, ◌^◌, min}
use Rattle.segment_codec.specs.Lent.{segment_of}
use Rattle.common_ancestor.specs.Jumps.{IsJumpAbove}
use Rattle.common_ancestor.proofs.jump.longest_above.Given as goal

abbrev pub invariant-levels : goal.invariant-levels
invariant-levels g l = record {
  best : IsJumpAbove (g.T.SegmentTable.flats l.table) l.id l.floor (segment_of l.best);
  counted : min l.fn.steps.taken (2 ^ 64 - 1) ≤ l.steps.taken;
}
