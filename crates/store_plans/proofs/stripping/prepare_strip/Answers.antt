use Rattle.std.proofs.Common.{map, refl}
use Rattle.step_rules.specs.Verb.{Strip}
use Rattle.store_plans.specs.Changes.{strip_of}
use Rattle.store_plans.proofs.ChangeTests.{prepares-done, prepares-memory, prepares-refused}
use Rattle.store_plans.proofs.stripping.prepare_strip.Goals as goal

pub returns-in_err-change-clause-step : goal.returns-in_err-change-clause-step
returns-in_err-change-clause-step g c = λ began s added st v o.
    let old = map g.R.Remote.shown c.args.sources.mirrors.now.items in
    let new = map g.R.Remote.shown c.plan_stripped.new.sources.1.0.items in
    prepares-refused c.args.limits st s old new c.args.sources.cache.now c.plan_stripped.new.sources.0 (Strip c.args.names.now) (strip_of st c.args.names.now) c.from_residual.result c.in_err-change.field-0.0 c.from_residual.ensures.1
    (c.in_err-change.ensures.step began s added st v o)

pub returns-in-Ok-clause-step : goal.returns-in-Ok-clause-step
returns-in-Ok-clause-step g c = λ began s added st v o.
    let old = map g.R.Remote.shown c.args.sources.mirrors.now.items in
    let new = map g.R.Remote.shown c.plan_stripped.new.sources.1.0.items in
    prepares-done c.args.limits st s old new c.args.sources.cache.now c.plan_stripped.new.sources.0 (Strip c.args.names.now) (strip_of st c.args.names.now) c.in_ok-change.change (c.in_ok-change.ensures.step began s added st v o) _ refl

pub returns-in-Err-clause-step : goal.returns-in-Err-clause-step
returns-in-Err-clause-step g c = λ began s added st v o.
    let old = map g.R.Remote.shown c.args.sources.mirrors.now.items in
    let new = map g.R.Remote.shown c.plan_stripped.new.sources.1.0.items in
    prepares-memory c.args.limits st s old new c.args.sources.cache.now c.plan_stripped.new.sources.0 (Strip c.args.names.now) (strip_of st c.args.names.now) c.in_ok-change.change (c.in_ok-change.ensures.step began s added st v o)
