use Rattle.std.proofs.Common.{Ok, map, sym, subst}
use Rattle.std.specs.List.{AllZip}
use Rattle.change_parts.specs.Asked.{IsFoundIn}
use Rattle.step_rules.specs.State.{pending_of}
use Rattle.step_rules.specs.Verb.{Flush}
use Rattle.step_rules.specs.Worlds.{flush_of}
use Rattle.store_plans.specs.Changes.{FindsHeads}
use Rattle.store_plans.proofs.ChangeTests.{err-plans}
use Rattle.store_plans.proofs.FlushTests.{plans-unfound}
use Rattle.store_plans.proofs.planning.plan.Goals as goal

pub returns-in_err-found-clause-step : goal.returns-in_err-found-clause-step
returns-in_err-found-clause-step g c = λ began s added st v x o.
    let old = map g.R.Remote.shown c.args.sources.mirrors.now.items in
    let new = map g.R.Remote.shown c.heads_found.new.mirrors.items in
    err-plans c.args.limits st s (Flush c.args.heads.now) (flush_of st s c.args.heads.now) old new c.args.sources.cache.now c.heads_found.new.cache c.from_residual.result c.in_err-found.field-0.0 c.from_residual.ensures.1
    (plans-unfound c.args.limits st s c.args.heads.now began added c.args.session.now o old new c.args.sources.cache.now c.heads_found.new.cache c.in_err-found.field-0.0 (c.in_err-found.ensures.step began s added st v x o))

pub plan_found-requires-clause-kept : goal.plan_found-requires-clause-kept
plan_found-requires-clause-kept g c =
    let r = c.requires.kept in
    (r.0, r.1, r.2, subst (λ l. AllZip (IsFoundIn r.0) c.args.heads.now l) (sym c.deref_mut.ensures.value) (c.in_ok-found.ensures.found r.0 r.1 r.2))

pub returns-clause-stored : goal.returns-clause-stored
returns-clause-stored g c = λ added v x.
    c.plan_found.ensures.stored added v x (subst (λ l. AllZip (IsFoundIn added) c.args.heads.now l) (sym c.deref_mut.ensures.value) (c.in_ok-found.ensures.found added v x))

pub returns-clause-step : goal.returns-clause-step
returns-clause-step g c = λ began s added st v x o.
    let old = map g.R.Remote.shown c.args.sources.mirrors.now.items in
    let mid = map g.R.Remote.shown c.heads_found.new.mirrors.items in
    c.plan_found.ensures.step began s added st old c.args.sources.cache.now v x o
    (subst (λ l. FindsHeads added st.stored (pending_of st s) c.args.heads.now old mid c.args.sources.cache.now c.heads_found.new.cache (Ok l)) (sym c.deref_mut.ensures.value) (c.in_ok-found.ensures.step began s added st v x o))
