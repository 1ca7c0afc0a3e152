use Rattle.std.proofs.Common.{Ok, Option, ℕ, map, subst}
use Rattle.name_map.specs.Added.{payloads_of}
use Rattle.store_plans.specs.Looking.{Looks}
use Rattle.store_plans.proofs.Looked.{err-finds, one-found, one-refused, one-unknown}
use Rattle.store_plans.proofs.lookup.find_seen.Goals as goal

pub returns-in_err-id-clause-finds : goal.returns-in_err-id-clause-finds
returns-in_err-id-clause-finds g c = λ added w rows h.
    err-finds (payloads_of added) w rows c.args.name.now _ _ c.args.cache.now c.find.new.cache c.from_residual.result c.in_err-id.field-0.0 c.from_residual.ensures.1
    (one-refused (payloads_of added) w rows c.args.name.now _ _ c.args.cache.now c.find.new.cache c.in_err-id.field-0.0 (c.in_err-id.ensures.looks added w rows h))

pub returns-in-Some-clause-finds : goal.returns-in-Some-clause-finds
returns-in-Some-clause-finds g c = λ added w rows h.
    let old = map g.R.Remote.shown c.args.mirrors.now.items in
    let new = map g.R.Remote.shown c.find.new.mirrors.items in
    one-found (payloads_of added) w rows c.args.name.now old new c.args.cache.now c.find.new.cache c.in-Some.id
    (subst (λ (o : Option ℕ). Looks (payloads_of added) w rows c.args.name.now old new c.args.cache.now c.find.new.cache (Ok o)) c.in-Some.is (c.in_ok-id.ensures.looks added w rows h))

pub returns-in-None-clause-finds : goal.returns-in-None-clause-finds
returns-in-None-clause-finds g c = λ added w rows h.
    let old = map g.R.Remote.shown c.args.mirrors.now.items in
    let new = map g.R.Remote.shown c.find.new.mirrors.items in
    one-unknown (payloads_of added) w rows c.args.name.now old new c.args.cache.now c.find.new.cache
    (subst (λ (o : Option ℕ). Looks (payloads_of added) w rows c.args.name.now old new c.args.cache.now c.find.new.cache (Ok o)) c.in-None.is (c.in_ok-id.ensures.looks added w rows h))
