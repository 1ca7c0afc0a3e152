use Rattle.std.proofs.Common.{arith}
use Rattle.segment_codec.specs.Lent.{segment_of}
use Rattle.ancestor_query.specs.Parts.{IsFound}
use Rattle.ancestor_query.proofs.Best.{found-at, looked-up}
use Rattle.ancestor_query.proofs.Parts.{parents-part, part-facts, join-steps}
use Rattle.ancestor_query.proofs.parent_set.Found.add_span.Goals as goal

pub unwrap-segment-requires : goal.unwrap-segment-requires
unwrap-segment-requires g c =
    let low = c.number-low.ensures.number in let high = c.from_number-high.ensures in let more = c.parts-test.true in let ends = c.parts.invariant.high in
    looked-up (g.T.SegmentTable.flats c.args.table.now) c.from_number-high.result c.flat.result c.flat.ensures.found (c.requires.held c.from_number-high.result (omega arith, omega arith))

pub add_part-requires-clause-order : goal.add_part-requires-clause-order
add_part-requires-clause-order g c =
    let flats = g.T.SegmentTable.flats c.args.table.now in
    let found = found-at flats c.from_number-high.result c.flat.result c.unwrap-segment.result c.unwrap-segment.ensures c.flat.ensures.found in
    (part-facts flats (g.met.T.SegmentTable.lawful c.args.table.now) (segment_of c.unwrap-segment.result) c.from_number-high.result found).0

pub add_part-requires-clause-group : goal.add_part-requires-clause-group
add_part-requires-clause-group g c =
    let flats = g.T.SegmentTable.flats c.args.table.now in
    let found = found-at flats c.from_number-high.result c.flat.result c.unwrap-segment.result c.unwrap-segment.ensures c.flat.ensures.found in
    (part-facts flats (g.met.T.SegmentTable.lawful c.args.table.now) (segment_of c.unwrap-segment.result) c.from_number-high.result found).1

pub parts-smaller : goal.parts-smaller
parts-smaller g c =
    let flats = g.T.SegmentTable.flats c.args.table.now in
    let found = found-at flats c.from_number-high.result c.flat.result c.unwrap-segment.result c.unwrap-segment.ensures c.flat.ensures.found in
    let order = (part-facts flats (g.met.T.SegmentTable.lawful c.args.table.now) (segment_of c.unwrap-segment.result) c.from_number-high.result found).0 in
    let high = c.from_number-high.ensures in let more = c.parts-test.true in let end = c.in_ok-end.ensures.lowest in
    omega arith

pub parts-preserved : goal.parts-preserved
parts-preserved g c =
    let flats = g.T.SegmentTable.flats c.args.table.now in
    let lawful = g.met.T.SegmentTable.lawful c.args.table.now in
    let found = found-at flats c.from_number-high.result c.flat.result c.unwrap-segment.result c.unwrap-segment.ensures c.flat.ensures.found in
    let order = (part-facts flats lawful (segment_of c.unwrap-segment.result) c.from_number-high.result found).0 in
    let high = c.from_number-high.ensures in let more = c.parts-test.true in let end = c.in_ok-end.ensures.lowest in
    let ends = c.parts.invariant.high in
    record {
      counted = let k = c.flat.ensures.tick in let b = c.parts.invariant.counted in omega arith;
      low = omega arith;
      high = omega arith;
      parents = λ x. join-steps {C = IsFound c.add_part.new.self.ids c.add_part.new.self.waiting x} (c.parts.invariant.parents x) (c.in_ok-end.ensures.parents x)
          (parents-part flats lawful (segment_of c.unwrap-segment.result) c.number-low.result c.args.span.high c.from_number-high.result c.parts.end c.in_ok-end.end found (omega arith) (omega arith) (omega arith) end x);
      settled = c.in_ok-end.ensures.settled;
    }
