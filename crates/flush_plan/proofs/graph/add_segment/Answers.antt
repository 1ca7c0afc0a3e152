use Rattle.std.proofs.Common.{◌∙◌, ap, subst, arith}
use Rattle.id_groups.specs.Id.{other_id}
use Rattle.segment_codec.specs.Lent.{segment_of}
use Rattle.change_parts.specs.Rows.{table_rows}
use Rattle.flush_plan.specs.Places.{AreRows}
use Rattle.flush_plan.proofs.PlaceRows.{first-row, root-row, next-row}
use Rattle.change_parts.proofs.RowLemmas.{high-other}
use Rattle.flush_plan.proofs.graph.add_segment.Goals as goal

pub returns-in_default-clause-rows : goal.returns-in_default-clause-rows
returns-in_default-clause-rows g c = λ are.
    let flats = g.T.SegmentTable.flats c.args.table.now in
    root-row flats c.args.k c.other-id.result _ _ (c.other-id.ensures ∙ ap other_id c.from.ensures) c.in_default.ensures.found (c.in_ok-add_root.ensures (table_rows flats c.args.k) are)

pub end_of-end-requires : goal.end_of-end-requires
end_of-end-requires g c =
    let flats = g.T.SegmentTable.flats c.args.table.now in
    let le = high-other flats c.args.k c.other-id.result (segment_of c.in-Some.segment) (c.other-id.ensures ∙ ap other_id c.from.ensures) c.in-Some.ensures.found in
    let is = c.high.ensures in omega (arith, le, is)

pub rows-init : goal.rows-init
rows-init g c = λ are.
    let flats = g.T.SegmentTable.flats c.args.table.now in
    first-row flats (g.met.T.SegmentTable.lawful c.args.table.now) c.args.k c.other-id.result (segment_of c.in-Some.segment) _ _ c.ranges.k.fits
    (c.other-id.ensures ∙ ap other_id c.from.ensures) c.in-Some.ensures.found (λ small. c.in_ok-add_first.ensures (table_rows flats c.args.k) are small)

pub rows-preserved : goal.rows-preserved
rows-preserved g c = λ are.
    let flats = g.T.SegmentTable.flats c.args.table.now in
    let j = c.rows.j in
    let from = c.rows.auto.j in let lt = c.rows-test.true in let below = c.end_of-end.ensures.below in
    let most = below.0 in let high = below.1 in let is = c.high.ensures in let fits = c.ranges.n.fits in
    let a = c.other.ensures in let b = c.from-in-rows.ensures in
    next-row flats (g.met.T.SegmentTable.lawful c.args.table.now) c.args.k c.other-id.result (segment_of c.in-Some.segment) j c.other.result _ _
    (c.other-id.ensures ∙ ap other_id c.from.ensures) c.in-Some.ensures.found (omega (arith, from)) (omega (arith, lt, high, is)) (omega (arith, lt, most, fits)) (omega (arith, a, b, from))
    (λ small. c.in_ok-add_follower.ensures (table_rows flats j) (c.rows.invariant are) small)

behind : goal.returns-clause-next
behind g c =
    let flats = g.T.SegmentTable.flats c.args.table.now in
    let le = high-other flats c.args.k c.other-id.result (segment_of c.in-Some.segment) (c.other-id.ensures ∙ ap other_id c.from.ensures) c.in-Some.ensures.found in
    let is = c.high.ensures in
    (c.end_of-end.ensures.above c.args.k (omega (arith, le, is)) c.requires, c.end_of-end.ensures.below.0)

pub returns-clause-next : goal.returns-clause-next
returns-clause-next g c = behind g c

pub returns-clause-rows : goal.returns-clause-rows
returns-clause-rows g c = λ are.
    let flats = g.T.SegmentTable.flats c.args.table.now in
    let more = (behind g c).0 in let ge = c.rows-test.false in let end = c.rows.auto.j-end (omega (arith, more)) in
    subst (λ m. AreRows c.rows.rows.places.items c.rows.rows.ids.items (table_rows flats m)) (omega (arith, ge, end)) (c.rows.invariant are)
