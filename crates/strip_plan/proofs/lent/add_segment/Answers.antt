use Rattle.std.proofs.Common.{◌+◌, List, sym, subst, arith}
use Rattle.strip_plan.specs.declared.lent.Row.{Row}
use Rattle.strip_plan.specs.declared.lent.Row.TheVariants.{Follows}
use Rattle.strip_plan.specs.LentRows.{AreLent}
use Rattle.strip_plan.proofs.Lending.{lent-next}
use Rattle.strip_plan.proofs.lent.add_segment.Goals as goal

pub rows-init : goal.rows-init
rows-init g c = λ are.
    let flats = g.T.SegmentTable.flats c.args.table.now in
    subst (λ (rows : List Row). AreLent flats rows (c.args.k + 1)) (sym c.in_ok-push.ensures.items)
    (lent-next flats c.args.rows.now.items c.args.k c.row_from-end.result.0 c.row_from-end.ensures.first are)

pub rows-preserved : goal.rows-preserved
rows-preserved g c = λ are.
    let flats = g.T.SegmentTable.flats c.args.table.now in
    let from = c.rows.auto._j in
    subst (λ (rows : List Row). AreLent flats rows (c.rows._j + 1)) (sym c.in_ok-push-2.ensures.items)
    (lent-next flats c.rows.rows.items c.rows._j Follows (c.row_from-end.ensures.behind c.rows._j (omega (arith, from)) c.rows-test.true) (c.rows.invariant are))

pub returns-clause-rows : goal.returns-clause-rows
returns-clause-rows g c = λ are.
    let flats = g.T.SegmentTable.flats c.args.table.now in
    let more = c.row_from-end.ensures.next.0 in let ge = c.rows-test.false in let end = c.rows.auto._j-end (omega (arith, more)) in
    subst (λ m. AreLent flats c.rows.rows.items m) (omega (arith, ge, end)) (c.rows.invariant are)
