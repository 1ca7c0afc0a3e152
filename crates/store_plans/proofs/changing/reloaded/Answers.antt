use Rattle.std.proofs.Common.{◌∙◌, map}
use Rattle.store_plans.proofs.ChangeTests.{reloads-done, reloads-memory, reloads-refused}
use Rattle.store_plans.proofs.FlushParts.{count-added}
use Rattle.store_plans.proofs.changing.reloaded.Goals as goal

pub returns-in_err-left-clause-step : goal.returns-in_err-left-clause-step
returns-in_err-left-clause-step g c = λ began s added st limits v x o.
    let old = map g.R.Remote.shown c.args.mirrors.now.items in
    let new = map g.R.Remote.shown c.rebased.new.sources.1.0.items in
    reloads-refused limits st s old new c.args.cache.now c.rebased.new.sources.0 _ _ c.from_residual.result c.in_err-left.field-0.0 c.from_residual.ensures.1 (c.in_err-left.ensures.step began s added st limits v x o)

pub returns-in-Ok-clause-session : goal.returns-in-Ok-clause-session
returns-in-Ok-clause-session g c = λ added v x.
    c.in-Ok.ensures.session added v.tables_of (c.batch_count.ensures ∙ count-added c.args.log.now c.args.tables.now added v) (c.in_ok-left.ensures.left added v x)

pub returns-in-Ok-clause-step : goal.returns-in-Ok-clause-step
returns-in-Ok-clause-step g c = λ began s added st limits v x o.
    let old = map g.R.Remote.shown c.args.mirrors.now.items in
    let new = map g.R.Remote.shown c.rebased.new.sources.1.0.items in
    reloads-done limits st s old new c.args.cache.now c.rebased.new.sources.0 _ _ c.in_ok-left.left (c.in_ok-left.ensures.step began s added st limits v x o) c.in-Ok.session c.in-Ok.ensures.pending

pub returns-in-Err-clause-step : goal.returns-in-Err-clause-step
returns-in-Err-clause-step g c = λ began s added st limits v x o.
    let old = map g.R.Remote.shown c.args.mirrors.now.items in
    let new = map g.R.Remote.shown c.rebased.new.sources.1.0.items in
    reloads-memory limits st s old new c.args.cache.now c.rebased.new.sources.0 _ _ c.in_ok-left.left (c.in_ok-left.ensures.step began s added st limits v x o)
