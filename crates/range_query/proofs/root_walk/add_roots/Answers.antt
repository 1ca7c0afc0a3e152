use Rattle.std.proofs.Common.{arith}
use Rattle.segment_codec.specs.Lent.{segment_of}
use Rattle.range_query.proofs.ChildLemmas.{cut-group}
use Rattle.range_query.proofs.EndLemmas.{roots-more}
use Rattle.range_query.proofs.root_walk.add_roots.Goals as goal

pub flat_down-segment-requires : goal.flat_down-segment-requires
flat_down-segment-requires g c =
    let low = c.number-low.ensures.number in let high = c.from_number.ensures in let more = c.parts-test.true in let ends = c.parts.invariant.high in
    c.requires.held c.from_number.result (omega arith, omega arith)

pub parts-smaller : goal.parts-smaller
parts-smaller g c =
    let flats = g.T.SegmentTable.flats c.args.table.now in
    let found = c.flat_down-segment.ensures.found in
    let order = (cut-group flats (g.met.T.SegmentTable.lawful c.args.table.now) c.args.set.now (segment_of c.flat_down-segment.result) c.from_number.result found).0 in
    let high = c.from_number.ensures in let more = c.parts-test.true in let end = c.in_ok-end.ensures.lowest in
    omega arith

pub parts-preserved : goal.parts-preserved
parts-preserved g c =
    let flats = g.T.SegmentTable.flats c.args.table.now in
    let lawful = g.met.T.SegmentTable.lawful c.args.table.now in
    let found = c.flat_down-segment.ensures.found in
    let order = (cut-group flats lawful c.args.set.now (segment_of c.flat_down-segment.result) c.from_number.result found).0 in
    let high = c.from_number.ensures in let more = c.parts-test.true in let end = c.in_ok-end.ensures.lowest in
    let ends = c.parts.invariant.high in let low = c.number-low.ensures.number in
    record {
      low = omega arith;
      high = omega arith;
      canonical = λ h. c.in_ok-end.ensures.canonical (c.parts.invariant.canonical h);
      counted = let k = c.flat_down-segment.ensures.counted in let b = c.parts.invariant.counted in omega arith;
      exact = λ x. roots-more flats lawful c.args.set.now (segment_of c.flat_down-segment.result) c.number-low.result c.from_number.result c.parts.end c.in_ok-end.end c.args.span.high x found
          (omega arith) (omega arith) (omega arith) end (λ y a b. c.requires.inside y (omega arith, omega arith)) (c.parts.invariant.exact x) (c.in_ok-end.ensures.members x);
    }
