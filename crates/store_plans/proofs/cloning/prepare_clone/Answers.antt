use Rattle.std.proofs.Common.{length, Err, refl}
use Rattle.gated_log.specs.Held.{log_bytes}
use Rattle.store_plans.specs.declared.changing.Next.{Next}
use Rattle.store_plans.proofs.ClonePlans.{err-kept, refuses-first, refuses-asked, told-prepared}
use Rattle.store_plans.proofs.cloning.prepare_clone.Goals as goal

pub returns-in_err-check_nothing-clause-asks : goal.returns-in_err-check_nothing-clause-asks
returns-in_err-check_nothing-clause-asks g c = λ began s added st over kept on.
    err-kept c.from_residual.result c.in_err-check_nothing.field-0.0 _ _ c.from_residual.ensures.1
    (refuses-first c.args.limits st s (length (log_bytes c.args.log.now)) _ _ c.in_err-check_nothing.field-0.0 refl (c.in_err-check_nothing.ensures.tests began s added st c.args.limits over.tables_of on))

pub returns-in_err-told-clause-asks : goal.returns-in_err-told-clause-asks
returns-in_err-told-clause-asks g c = λ began s added st over kept on.
    let a = c.in_err-told.ensures.asks in
    err-kept c.from_residual-in_err-told.result c.in_err-told.field-0.0 _ _ c.from_residual-in_err-told.ensures.1
    (refuses-asked c.args.limits st s (length (log_bytes c.args.log.now)) _ _ (c.in_ok-check_nothing.ensures.tests began s added st c.args.limits over.tables_of on) c.in_err-told.field-0.0 (Err a.0) a.1 a.2)

pub returns-clause-asks : goal.returns-clause-asks
returns-clause-asks g c = λ began s added st over kept on.
    told-prepared c.args.limits st s (length (log_bytes c.args.log.now)) _ _ (c.in_ok-check_nothing.ensures.tests began s added st c.args.limits over.tables_of on) (λ (n : Next). n.change) c.in_ok-told.told c.prepare_told.result
    c.in_ok-told.ensures.asks c.prepare_told.ensures.told
