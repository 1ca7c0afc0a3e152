use Rattle.std.proofs.Common.{subst, sym}
use Rattle.store_plans.specs.Changes.{AreOver, IsPrepared}
use Rattle.store_plans.specs.PullPlans.{RefusesTold}
use Rattle.store_plans.proofs.ClonePlans.{err-kept}
use Rattle.store_plans.proofs.pulling.prepare_told.Goals as goal

pub take_change-requires-clause-stored : goal.take_change-requires-clause-stored
take_change-requires-clause-stored c =
    let r = c.requires.over in
    (1, r.0, subst (λ t. AreOver c.args.log.now t r.0) (sym c.plan_told.ensures.unchanged) r.1, c.in_ok-change.ensures.stored r.0 r.1 r.2)

pub returns-in_err-change-clause-told : goal.returns-in_err-change-clause-told
returns-in_err-change-clause-told c = λ began s added x st v count o.
    err-kept c.from_residual.result c.in_err-change.field-0.0 _ (RefusesTold c.args.limits st c.args.fresh.now) c.from_residual.ensures.1 (c.in_err-change.ensures.told began s added x st v count o)

pub returns-in-Ok-clause-ready : goal.returns-in-Ok-clause-ready
returns-in-Ok-clause-ready c = λ added v count.
    let same = c.plan_told.ensures.unchanged in
    subst (λ before. IsPrepared c.args.limits c.args.log.now c.take_change.new.log before c.take_change.new.tables added c.in_ok-change.change c.in-Ok.session) same
    (c.in-Ok.ensures.ready 1 added (subst (λ t. AreOver c.args.log.now t added) (sym same) v) (c.in_ok-change.ensures.stored added v count))
