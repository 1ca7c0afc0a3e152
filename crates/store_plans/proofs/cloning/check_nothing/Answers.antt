use Rattle.std.proofs.Common.{◌∙◌, Some, ap, sym, subst}
use Rattle.change_rules.specs.Tables.{StandFor}
use Rattle.step_rules.specs.State.{base_of, pending_of}
use Rattle.store_plans.proofs.ClonePlans.{err-kept}
use Rattle.store_plans.proofs.CloneTold.{refused-rows, refused-pending, none-refused}
use Rattle.store_plans.proofs.cloning.check_nothing.Goals as goal

pub check_pending-requires : goal.check_pending-requires
check_pending-requires c = let r = c.requires in (r.1.pending.rows, r.1.pending.held)

pub returns-in_err-check_empty-clause-tests : goal.returns-in_err-check_empty-clause-tests
returns-in_err-check_empty-clause-tests c = λ began s added st limits t on.
    let e = c.in_err-check_empty.ensures.rows added st.stored t (subst (λ l. StandFor l st.stored) (sym on.payloads) on.hold.stand) in
    err-kept c.from_residual.result c.in_err-check_empty.field-0.0 _ _ c.from_residual.ensures.1 (refused-rows limits st s e.1 ∙ ap Some (sym e.0))

pub returns-in_err-check_pending-clause-tests : goal.returns-in_err-check_pending-clause-tests
returns-in_err-check_pending-clause-tests c = λ began s added st limits t on.
    let r = c.in_ok-check_empty.ensures.rows added st.stored t (subst (λ l. StandFor l st.stored) (sym on.payloads) on.hold.stand) in
    let e = c.in_err-check_pending.ensures (base_of st s) (pending_of st s) on.session.pending in
    err-kept c.from_residual-in_err-check_pending.result c.in_err-check_pending.field-0.0 _ _ c.from_residual-in_err-check_pending.ensures.1 (refused-pending limits st s r.0 r.1 e.1 ∙ ap Some (sym e.0))

pub returns-clause-tests : goal.returns-clause-tests
returns-clause-tests c = λ began s added st limits t on.
    let r = c.in_ok-check_empty.ensures.rows added st.stored t (subst (λ l. StandFor l st.stored) (sym on.payloads) on.hold.stand) in
    none-refused limits st s r.0 r.1 (c.in_ok-check_pending.ensures (base_of st s) (pending_of st s) on.session.pending)
