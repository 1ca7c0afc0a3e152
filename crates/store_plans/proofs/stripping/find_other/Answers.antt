use Rattle.std.proofs.Common.{Ok, Option, ℕ, [], map, subst}
use Rattle.name_map.specs.Added.{payloads_of}
use Rattle.store_plans.specs.Looking.{Looks}
use Rattle.store_plans.proofs.StripLooks.{err-other, other-found, other-master, other-refused, other-unknown}
use Rattle.store_plans.proofs.stripping.find_other.Goals as goal

pub returns-in_err-found-clause-finds : goal.returns-in_err-found-clause-finds
returns-in_err-found-clause-finds g c = λ added w h.
    err-other added w c.args.name.now _ _ c.args.cache.now c.find.new.cache c.from_residual.result c.in_err-found.field-0.0 c.from_residual.ensures.1
    (other-refused c.args.newest.now.base c.args.newest.now.pending.now added w h.sees c.args.name.now _ _ c.args.cache.now c.find.new.cache c.in_err-found.field-0.0 (c.in_err-found.ensures.looks added w [] h))

pub returns-in_default-clause-finds : goal.returns-in_default-clause-finds
returns-in_default-clause-finds g c = λ added w h.
    other-unknown c.args.newest.now.base c.args.newest.now.pending.now added w h.sees c.args.name.now _ _ c.args.cache.now c.find.new.cache c.in_ok-found.found c.in_default.not-Some (c.in_ok-found.ensures.looks added w [] h)

pub returns-in-Master-clause-finds : goal.returns-in-Master-clause-finds
returns-in-Master-clause-finds g c = λ added w h.
    let old = map g.R.Remote.shown c.args.mirrors.now.items in
    let new = map g.R.Remote.shown c.find.new.mirrors.items in
    other-master c.args.newest.now.base c.args.newest.now.pending.now added w h.sees c.args.name.now old new c.args.cache.now c.find.new.cache c.in-Some.id
    (subst (λ (o : Option ℕ). Looks (payloads_of added) w [] c.args.name.now old new c.args.cache.now c.find.new.cache (Ok o)) c.in-Some.is (c.in_ok-found.ensures.looks added w [] h)) c.in-Master.ensures

pub returns-in-Others-clause-finds : goal.returns-in-Others-clause-finds
returns-in-Others-clause-finds g c = λ added w h.
    let old = map g.R.Remote.shown c.args.mirrors.now.items in
    let new = map g.R.Remote.shown c.find.new.mirrors.items in
    other-found c.args.newest.now.base c.args.newest.now.pending.now added w h.sees c.args.name.now old new c.args.cache.now c.find.new.cache c.in-Some.id
    (subst (λ (o : Option ℕ). Looks (payloads_of added) w [] c.args.name.now old new c.args.cache.now c.find.new.cache (Ok o)) c.in-Some.is (c.in_ok-found.ensures.looks added w [] h)) c.in-Others.ensures
