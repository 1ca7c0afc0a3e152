use Rattle.std.proofs.Common.{arith, subst}
use Rattle.segment_codec.specs.Lent.{segment_of}
use Rattle.range_query.specs.Ends.{HeadsFrom}
use Rattle.range_query.proofs.ChildLemmas.{cut-group}
use Rattle.range_query.proofs.EndLemmas.{heads-part}
use Rattle.range_query.proofs.head_walk.add_heads.Goals as goal

pub flat_down-segment-requires : goal.flat_down-segment-requires
flat_down-segment-requires g c =
    let low = c.number-low.ensures.number in let high = c.from_number-id.ensures in let more = c.parts-test.true in let ends = c.parts.invariant.high in
    c.requires.held c.from_number-id.result (omega arith, omega arith)

pub parts-smaller : goal.parts-smaller
parts-smaller g c =
    let flats = g.T.SegmentTable.flats c.args.table.now in
    let found = c.flat_down-segment.ensures.found in
    let order = (cut-group flats (g.met.T.SegmentTable.lawful c.args.table.now) c.args.set.now (segment_of c.flat_down-segment.result) c.from_number-id.result found).0 in
    let high = c.from_number-id.ensures in let more = c.parts-test.true in let end = c.in_ok-end.ensures.lowest in
    omega arith

pub parts-preserved : goal.parts-preserved
parts-preserved g c =
    let flats = g.T.SegmentTable.flats c.args.table.now in
    let lawful = g.met.T.SegmentTable.lawful c.args.table.now in
    let found = c.flat_down-segment.ensures.found in
    let order = (cut-group flats lawful c.args.set.now (segment_of c.flat_down-segment.result) c.from_number-id.result found).0 in
    let high = c.from_number-id.ensures in let more = c.parts-test.true in let end = c.in_ok-end.ensures.lowest in
    let ends = c.parts.invariant.high in let low = c.number-low.ensures.number in
    record {
      low = omega arith;
      high = omega arith;
      canonical = λ h. c.in_ok-add_head.ensures.canonical (c.parts.invariant.canonical h);
      counted = let k = c.flat_down-segment.ensures.counted in let b = c.parts.invariant.counted in omega arith;
      heads = heads-part flats lawful c.args.set.now (segment_of c.flat_down-segment.result) c.number-low.result c.from_number-id.result c.parts.end c.in_ok-end.end found
          (omega arith) (omega arith) end (λ y a b. c.requires.inside y (omega arith, omega arith)) c.parts.answer c.add_head.new.answer c.parts.waiting c.add_head.new.waiting c.push_parents.new.waiting
          c.parts.invariant.heads c.in_ok-add_head.ensures.members c.in_ok-add_head.ensures.keeps c.in_ok-end.ensures.all;
    }

pub returns-clause-heads : goal.returns-clause-heads
returns-clause-heads g c =
    let flats = g.T.SegmentTable.flats c.args.table.now in
    let e = c.number-low.ensures.number in let test = c.parts-test.false in let low = c.parts.invariant.low in
    subst (λ n. HeadsFrom flats c.args.set.now n c.parts.answer c.parts.waiting) (omega arith) c.parts.invariant.heads
