use Rattle.std.proofs.Common.{sym, ◌∙◌}
use Rattle.store_queries.proofs.Parents.{id-found, id-next}
use Rattle.store_queries.proofs.adding.has_id.Goals as goal

pub returns-then-number : goal.returns-then-number
returns-then-number c =
    id-found c.args.id c.args.ids.now c.loop-known.known-index c.known-item.result c.loop-known-test.true c.known-item.is c.loop-known.invariant
    (sym c.number.ensures.number ∙ c.if-number.true ∙ c.number-in-loop-known.ensures.number)

pub loop-known-preserved : goal.loop-known-preserved
loop-known-preserved c =
    id-next c.args.id c.args.ids.now c.loop-known.known-index c.known-item.result c.loop-known-test.true c.known-item.is c.loop-known.invariant
    (λ e. c.if-number.false (c.number.ensures.number ∙ e ∙ sym c.number-in-loop-known.ensures.number))
