use Rattle.std.proofs.Common.{◌≡◌, ◌∙◌, ◌-◌, [], ◌∷◌, ap, arith, sym, eq-eqb, if◌then◌else◌}
use Rattle.segment_codec.specs.Lent.{segment_of}
use Rattle.segment_codec.specs.Table.{parents_in}
use Rattle.segment_codec.proofs.Tables.{segment-in}
use Rattle.ancestor_query.proofs.Best.{found-at}
use Rattle.history_walks.proofs.rows.parents_in_order.Goals as goal

pub returns-clause-parents : goal.returns-clause-parents
returns-clause-parents g c =
    let flats = g.T.SegmentTable.flats c.args.table.now in
    let s = segment_of c.unwrap-segment.result in
    let found = found-at flats c.args.id c.flat.result c.unwrap-segment.result c.unwrap-segment.ensures c.flat.ensures.found in
    let low = (segment-in flats c.args.id s found).1.0 in
    let n = c.number-number.ensures.number in let l = c.low.ensures in let m = c.number.ensures.number in
    let is : c.args.id ≡ s.low = omega (arith, low, n, l, m, c.if-number.false) in
    c.parents.ensures ∙ (sym (ap (λ b. if b then s.parents else (c.args.id - 1) ∷ []) (eq-eqb c.args.id s.low is)) ∙ sym (ap (λ o. parents_in o c.args.id) found))
