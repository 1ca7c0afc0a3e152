use Rattle.std.proofs.Common.{◌≡◌, ◌<◌, take}
use Rattle.std.specs.List.{AllByRecursion}
use Rattle.segment_codec.specs.Record.{Segment}
use Rattle.remote_answers.proofs.cloning.put_segments.Given as goal

abbrev pub invariant-segments : goal.invariant-segments
invariant-segments g l = record {
  segments : l.given.segments ≡ take l.k (g.T.SegmentTable.flats l.table);
  below : AllByRecursion (λ (s : Segment). s.low < l.count) (take l.k (g.T.SegmentTable.flats l.table));
  names : l.given.names ≡ l.fn.given.names;
  heads : l.given.heads ≡ l.fn.given.heads;
}
