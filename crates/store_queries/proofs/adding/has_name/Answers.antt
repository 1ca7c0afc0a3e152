use Rattle.std.proofs.Common.{refl, sym, true≢false}
use Rattle.store_queries.proofs.ParentTests.{in-found, in-next}
use Rattle.store_queries.proofs.adding.has_name.Goals as goal

pub returns-then-is : goal.returns-then-is
returns-then-is c =
    in-found c.args.name.now c.args.names.now c.loop-known.known-index c.known-item.result c.loop-known-test.true c.known-item.is c.loop-known.invariant (c.if-is.ensures.0 refl)

pub loop-known-preserved : goal.loop-known-preserved
loop-known-preserved c =
    in-next c.args.name.now c.args.names.now c.loop-known.known-index c.known-item.result c.loop-known-test.true c.known-item.is c.loop-known.invariant
    (λ e. true≢false (sym (c.if-is.ensures.1 e)))
