use Rattle.std.proofs.Common.{[], ◌≡◌, ◌↔◌, ℕ, subst, arith}
use Rattle.commit_graph.specs.Graph.{Reaches}
use Rattle.commit_graph.specs.Sets as sets
use Rattle.segment_codec.specs.Lent.{segment_of}
use Rattle.segment_codec.proofs.Tables.{segment-in}
use Rattle.span_set.specs.Members.{IsMember}
use Rattle.ancestor_query.specs.Graph.{table_graph}
use Rattle.ancestor_query.proofs.Best.{looked-up, found-at}
use Rattle.common_ancestor.proofs.Folds.{empty-list, pieces-next, pieces-end, pieces-empty, pieces-held}
use Rattle.common_ancestor.proofs.all_reach.meet_span.Goals as goal

pub returns-then-is_empty-clause-reached : goal.returns-then-is_empty-clause-reached
returns-then-is_empty-clause-reached g c =
    let low = c.number-low.ensures.number in
    pieces-empty (g.T.SegmentTable.flats c.args.table.now) (g.met.T.SegmentTable.lawful c.args.table.now) c.args.set c.pieces.end c.args.span.high c.pieces.last c.pieces.invariant.pieces
    c.args.span.low (let le = c.pieces.invariant.low in omega arith) (subst (λ l. l ≡ []) c.spans.ensures.same (empty-list c.spans.result.now c.if-is_empty.ensures))

pub unwrap-segment-requires : goal.unwrap-segment-requires
unwrap-segment-requires g c =
    let low = c.number-low.ensures.number in let high = c.from_number-high.ensures in let more = c.pieces-test.true in let ends = c.pieces.invariant.high in
    looked-up (g.T.SegmentTable.flats c.args.table.now) c.from_number-high.result c.flat.result c.flat.ensures.found (c.requires.span_held c.from_number-high.result (omega arith, omega arith))

pub meet_one-requires-clause-held : goal.meet_one-requires-clause-held
meet_one-requires-clause-held g c =
    pieces-held (g.T.SegmentTable.flats c.args.table.now) (g.met.T.SegmentTable.lawful c.args.table.now) c.args.set c.pieces.end c.args.span.high c.pieces.last c.pieces.invariant.pieces c.requires.held

pub meet_one-requires-clause-id_held : goal.meet_one-requires-clause-id_held
meet_one-requires-clause-id_held g c =
    let low = c.number-low.ensures.number in let high = c.from_number-high.ensures in let more = c.pieces-test.true in let ends = c.pieces.invariant.high in
    let flats = g.T.SegmentTable.flats c.args.table.now in
    let found = found-at flats c.from_number-high.result c.flat.result c.unwrap-segment.result c.unwrap-segment.ensures c.flat.ensures.found in
    let order = (segment-in flats c.from_number-high.result (segment_of c.unwrap-segment.result) found).1.0 in
    let lowest = c.number.ensures.number in let from = c.low.ensures in let end = c.max-end.ensures in let taken = c.from_number.ensures in
    c.requires.span_held c.from_number.result (omega arith, omega arith)

pub pieces-smaller : goal.pieces-smaller
pieces-smaller g c =
    let low = c.number-low.ensures.number in let high = c.from_number-high.ensures in let more = c.pieces-test.true in
    let flats = g.T.SegmentTable.flats c.args.table.now in
    let found = found-at flats c.from_number-high.result c.flat.result c.unwrap-segment.result c.unwrap-segment.ensures c.flat.ensures.found in
    let order = (segment-in flats c.from_number-high.result (segment_of c.unwrap-segment.result) found).1.0 in
    let lowest = c.number.ensures.number in let from = c.low.ensures in let end = c.max-end.ensures in
    omega arith

pub pieces-preserved : goal.pieces-preserved
pieces-preserved g c =
    let low = c.number-low.ensures.number in let high = c.from_number-high.ensures in let more = c.pieces-test.true in let ends = c.pieces.invariant.high in
    let flats = g.T.SegmentTable.flats c.args.table.now in
    let found = found-at flats c.from_number-high.result c.flat.result c.unwrap-segment.result c.unwrap-segment.ensures c.flat.ensures.found in
    let order = (segment-in flats c.from_number-high.result (segment_of c.unwrap-segment.result) found).1.0 in
    let lowest = c.number.ensures.number in let from = c.low.ensures in let end = c.max-end.ensures in
    record {
      low = omega arith;
      high = omega arith;
      counted = let tick = c.flat.ensures.tick in let before = c.pieces.invariant.counted in let met = c.meet_one.ensures.counted in omega arith;
      pieces = pieces-next flats (g.met.T.SegmentTable.lawful c.args.table.now) c.args.set c.pieces.end c.args.span.high c.pieces.last c.pieces.invariant.pieces
          c.from_number-high.result (segment_of c.unwrap-segment.result) c.max-end.result c.in_ok-last.last (omega arith) found (omega arith) (omega arith) ends
          (subst (λ q. (z : ℕ) → sets.ancestors (table_graph flats) (IsMember c.in_ok-last.last) z ↔ (sets.ancestors (table_graph flats) (IsMember c.pieces.last) z × Reaches (table_graph flats) q z))
          c.from_number.ensures c.in_ok-last.ensures.reached) c.in_ok-last.ensures.last c.in_ok-last.ensures.canonical;
    }

pub returns-clause-reached : goal.returns-clause-reached
returns-clause-reached g c =
    let low = c.number-low.ensures.number in let le = c.pieces.invariant.low in let done = c.pieces-test.false in
    pieces-end (g.T.SegmentTable.flats c.args.table.now) (g.met.T.SegmentTable.lawful c.args.table.now) c.args.set c.pieces.end c.args.span.high c.pieces.last c.pieces.invariant.pieces
    c.args.span.low (omega arith)
