use Rattle.std.proofs.Common.{◌∙◌, Err, Ok, Some, ap, refl, sym, subst, map}
use Rattle.mirror_set.specs.Fresh.{AsksFresh, PlainFresh, count_from}
use Rattle.change_rules.specs.Tables.{cloned_count}
use Rattle.step_rules.specs.State.{base_of, pending_of}
use Rattle.store_plans.specs.declared.changing.Next.{Next}
use Rattle.store_plans.proofs.ClonePlans.{err-kept}
use Rattle.store_plans.proofs.PullPlans.{pull-none, pull-pending, refuses-asked, refuses-first, told-prepared}
use Rattle.store_plans.proofs.pulling.prepare_pull.Goals as goal

pub check_pending-requires : goal.check_pending-requires
check_pending-requires g c = let r = c.requires.kept in (r.2.pending.rows, r.2.pending.held)

pub prepare_told-requires-clause-over : goal.prepare_told-requires-clause-over
prepare_told-requires-clause-over g c =
    let r = c.requires.kept in
    (r.0, r.1, c.in_ok-fresh.ensures.fits.1 ∙ ap (λ n. count_from n c.in_ok-fresh.fresh.cloned) (c.cloned-from.ensures.payloads r.0 r.1.tables_of))

pub returns-in_err-check_pending-clause-asks : goal.returns-in_err-check_pending-clause-asks
returns-in_err-check_pending-clause-asks g c = λ began s added st over on.
    let e = c.in_err-check_pending.ensures (base_of st s) (pending_of st s) on.session.pending in
    err-kept c.from_residual.result c.in_err-check_pending.field-0.0 _ _ c.from_residual.ensures.1
    (refuses-first c.args.limits st s _ _ c.in_err-check_pending.field-0.0 refl (pull-pending c.args.limits st s e.1 ∙ ap Some (sym e.0)))

pub returns-in_err-fresh-clause-asks : goal.returns-in_err-fresh-clause-asks
returns-in_err-fresh-clause-asks g c = λ began s added st over on.
    let old = map g.R.Remote.shown c.args.mirrors.now.items in
    let new = map g.R.Remote.shown c.ask_told.new.mirrors.items in
    let a = c.in_err-fresh.ensures.asks in
    let from = c.cloned-from.ensures.payloads added over.tables_of ∙ ap cloned_count on.payloads in
    let none = pull-none c.args.limits st s (c.in_ok-check_pending.ensures (base_of st s) (pending_of st s) on.session.pending) in
    err-kept c.from_residual-in_err-fresh.result c.in_err-fresh.field-0.0 _ _ c.from_residual-in_err-fresh.ensures.1
    (refuses-asked c.args.limits st s old new none c.in_err-fresh.field-0.0 (Err a.0) (subst (λ n. AsksFresh n old new (Err a.0)) from a.1) a.2)

pub returns-clause-asks : goal.returns-clause-asks
returns-clause-asks g c = λ began s added st over on.
    let old = map g.R.Remote.shown c.args.mirrors.now.items in
    let new = map g.R.Remote.shown c.ask_told.new.mirrors.items in
    let fresh : PlainFresh = c.in_ok-fresh.fresh in
    let from = c.cloned-from.ensures.payloads added over.tables_of in
    let none = pull-none c.args.limits st s (c.in_ok-check_pending.ensures (base_of st s) (pending_of st s) on.session.pending) in
    let count = c.in_ok-fresh.ensures.fits.1 ∙ ap (λ n. count_from n fresh.cloned) from in
    told-prepared c.args.limits st s old new none (λ (n : Next). n.change) fresh c.prepare_told.result
    (subst (λ n. AsksFresh n old new (Ok fresh)) (from ∙ ap cloned_count on.payloads) c.in_ok-fresh.ensures.asks) (c.prepare_told.ensures.told began s added c.args.session.now st over count on)

pub returns-clause-ready : goal.returns-clause-ready
returns-clause-ready g c = λ added over.
    c.prepare_told.ensures.ready added over (c.in_ok-fresh.ensures.fits.1 ∙ ap (λ n. count_from n c.in_ok-fresh.fresh.cloned) (c.cloned-from.ensures.payloads added over.tables_of))
