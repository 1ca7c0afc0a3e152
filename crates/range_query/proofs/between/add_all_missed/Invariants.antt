use Rattle.std.proofs.Common.{◌≤◌, length, drop, ◌-◌, ◌^◌, min}
use Rattle.id_groups.specs.Lists.{IsIn}
use Rattle.segment_codec.specs.Record.{Segment}
use Rattle.span_set.specs.Places.{BeginWithin}
use Rattle.range_query.specs.Parts.{StandBelow}
use Rattle.range_query.proofs.RangeLemmas.{Misses}
use Rattle.range_query.proofs.between.add_all_missed.Given as goal

abbrev pub invariant-up : goal.invariant-up
invariant-up g l = record {
  within_from : l.passed.from ≤ length l.from;
  within_below : l.passed.below ≤ length l.below.ids;
  within_cuts : l.left ≤ length l.below.cuts.items;
  counted : min l.fn.steps.taken (2 ^ 64 - 1) ≤ l.steps.taken;
  passed : (s : Segment) → IsIn s (drop l.k (g.T.SegmentTable.flats l.table)) → StandBelow s.low (drop l.passed.from l.from);
  begun : (s : Segment) → IsIn s (drop l.k (g.T.SegmentTable.flats l.table)) → BeginWithin s.high (drop l.passed.below l.below.ids);
  misses : Misses (g.T.SegmentTable.flats l.table) l.from l.below.ids l.k l.missed;
}
