use Rattle.std.proofs.Common.{map, refl, subst, sym}
use Rattle.step_rules.specs.Verb.{Flush}
use Rattle.step_rules.specs.Worlds.{flush_of}
use Rattle.store_plans.specs.Changes.{AreOver, IsPrepared}
use Rattle.store_plans.proofs.ChangeTests.{prepares-done, prepares-memory, prepares-refused}
use Rattle.store_plans.proofs.changing.prepare_flush.Goals as goal

pub returns-in_err-change-clause-step : goal.returns-in_err-change-clause-step
returns-in_err-change-clause-step g c = λ began s added st v x o.
    let old = map g.R.Remote.shown c.args.sources.mirrors.now.items in
    let new = map g.R.Remote.shown c.plan.new.sources.1.0.items in
    prepares-refused c.args.limits st s old new c.args.sources.cache.now c.plan.new.sources.0 (Flush c.args.heads.now) (flush_of st s c.args.heads.now) c.from_residual.result c.in_err-change.field-0.0 c.from_residual.ensures.1 (c.in_err-change.ensures.step began s added st v x o)

pub returns-in-Ok-clause-step : goal.returns-in-Ok-clause-step
returns-in-Ok-clause-step g c = λ began s added st v x o.
    let old = map g.R.Remote.shown c.args.sources.mirrors.now.items in
    let new = map g.R.Remote.shown c.plan.new.sources.1.0.items in
    prepares-done c.args.limits st s old new c.args.sources.cache.now c.plan.new.sources.0 (Flush c.args.heads.now) (flush_of st s c.args.heads.now) c.in_ok-change.change (c.in_ok-change.ensures.step began s added st v x o) _ refl

pub returns-in-Ok-clause-ready : goal.returns-in-Ok-clause-ready
returns-in-Ok-clause-ready g c = λ added v x.
    let same = c.plan.ensures.unchanged in
    subst (λ before. IsPrepared c.args.limits c.args.log.now c.take_change.new.log before c.take_change.new.tables added c.in_ok-change.change c.in-Ok.session) same
    (c.in-Ok.ensures.ready 1 added (subst (λ t. AreOver c.args.log.now t added) (sym same) v) (c.in_ok-change.ensures.stored added v x).next)

pub returns-in-Err-clause-step : goal.returns-in-Err-clause-step
returns-in-Err-clause-step g c = λ began s added st v x o.
    let old = map g.R.Remote.shown c.args.sources.mirrors.now.items in
    let new = map g.R.Remote.shown c.plan.new.sources.1.0.items in
    prepares-memory c.args.limits st s old new c.args.sources.cache.now c.plan.new.sources.0 (Flush c.args.heads.now) (flush_of st s c.args.heads.now) c.in_ok-change.change (c.in_ok-change.ensures.step began s added st v x o)
