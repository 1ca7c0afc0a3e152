use Rattle.std.proofs.Common.{◌∙◌, ℕ, Option, Some, Ok, map, subst}
use Rattle.high_segments.specs.Views.{flats_in}
use Rattle.name_map.specs.Added.{payloads_of}
use Rattle.store_plans.specs.Looking.{Looks}
use Rattle.store_queries.proofs.Seeking.{err-seeks, parents-there, same-parents, seek-differs, seek-new, seek-old, seek-parents, seek-unfound, seen-yes, serves}
use Rattle.store_queries.proofs.adding.seek.Goals as goal

pub returns-in_err-found-clause-seeks : goal.returns-in_err-found-clause-seeks
returns-in_err-found-clause-seeks g c = λ added w rows h.
    let old = map g.R.Remote.shown c.args.mirrors.now.items in
    let mid = map g.R.Remote.shown c.find.new.mirrors.items in
    err-seeks (payloads_of added) w rows c.args.name.now c.args.parents.now old mid c.args.cache.now c.find.new.cache c.from_residual.result c.in_err-found.field-0.0 c.from_residual.ensures.1
    (seek-unfound (payloads_of added) w rows c.args.name.now c.args.parents.now old mid mid c.args.cache.now c.find.new.cache c.find.new.cache c.in_err-found.field-0.0 (c.in_err-found.ensures.looks added w rows h))

pub returns-in_err-ids-clause-seeks : goal.returns-in_err-ids-clause-seeks
returns-in_err-ids-clause-seeks g c = λ added w rows h.
    let old = map g.R.Remote.shown c.args.mirrors.now.items in
    let mid = map g.R.Remote.shown c.find.new.mirrors.items in
    let new = map g.R.Remote.shown c.find_parents.new.mirrors.items in
    err-seeks (payloads_of added) w rows c.args.name.now c.args.parents.now old new c.args.cache.now c.find_parents.new.cache c.from_residual-in_err-ids.result c.in_err-ids.field-0.0 c.from_residual-in_err-ids.ensures.1
    (seek-parents (payloads_of added) w rows c.args.name.now c.args.parents.now old mid new c.args.cache.now c.find.new.cache c.find_parents.new.cache c.in_ok-found.found (c.in_ok-found.ensures.looks added w rows h) c.in_err-ids.field-0.0 (c.in_err-ids.ensures.finds added w rows h))

pub returns-in_default-clause-seeks : goal.returns-in_default-clause-seeks
returns-in_default-clause-seeks g c = λ added w rows h.
    let old = map g.R.Remote.shown c.args.mirrors.now.items in
    let mid = map g.R.Remote.shown c.find.new.mirrors.items in
    let new = map g.R.Remote.shown c.find_parents.new.mirrors.items in
    seek-new (payloads_of added) w rows c.args.name.now c.args.parents.now old mid new c.args.cache.now c.find.new.cache c.find_parents.new.cache
    (subst (λ (o : Option ℕ). Looks (payloads_of added) w rows c.args.name.now old mid c.args.cache.now c.find.new.cache (Ok o)) c.in_default.is (c.in_ok-found.ensures.looks added w rows h))
    c.in_ok-ids.ids (c.in_ok-ids.ensures.finds added w rows h) c.in_ok-ids.ensures.distinct

pub returns-then-not-has_parents-clause-seeks : goal.returns-then-not-has_parents-clause-seeks
returns-then-not-has_parents-clause-seeks g c = λ added w rows h.
    let old = map g.R.Remote.shown c.args.mirrors.now.items in
    let mid = map g.R.Remote.shown c.find.new.mirrors.items in
    let new = map g.R.Remote.shown c.find_parents.new.mirrors.items in
    let ids = c.in_ok-ids.ids.items in
    let looks = subst (λ (o : Option ℕ). Looks (payloads_of added) w rows c.args.name.now old mid c.args.cache.now c.find.new.cache (Ok o)) c.in-Some.is (c.in_ok-found.ensures.looks added w rows h) in
    let finds = c.in_ok-ids.ensures.finds added w rows h in
    let flats = flats_in c.view.result in
    let segs = c.view.ensures.graph added w rows h.sees.base_of h.sees.stand h.sees.pending_rows in
    seek-differs (payloads_of added) w rows c.args.name.now c.args.parents.now old mid new c.args.cache.now c.find.new.cache c.find_parents.new.cache c.in-Some.id looks ids finds c.has_parents.result
    (λ serving.
    let y = seen-yes (payloads_of added) w rows c.args.name.now c.args.parents.now old mid new c.args.cache.now c.find.new.cache c.find_parents.new.cache c.in-Some.id (looks.right serving) in
    let on = serves (payloads_of added) w rows c.args.name.now c.args.parents.now old mid new c.args.cache.now c.find.new.cache c.find_parents.new.cache (Some c.in-Some.id) looks serving in
    c.has_parents.ensures ∙ same-parents c.args.seen.now.base c.args.seen.now.pending.now added w rows h.sees c.args.name.now c.args.parents.now c.in-Some.id c.deref.result.now flats segs y.0 y.1
    (parents-there (payloads_of added) w rows c.args.name.now c.args.parents.now mid new c.find.new.cache c.find_parents.new.cache ids finds on) (c.deref.ensures.value ∙ finds.right on))
    c.if-not-has_parents.true

pub returns-clause-seeks : goal.returns-clause-seeks
returns-clause-seeks g c = λ added w rows h.
    let old = map g.R.Remote.shown c.args.mirrors.now.items in
    let mid = map g.R.Remote.shown c.find.new.mirrors.items in
    let new = map g.R.Remote.shown c.find_parents.new.mirrors.items in
    let ids = c.in_ok-ids.ids.items in
    let looks = subst (λ (o : Option ℕ). Looks (payloads_of added) w rows c.args.name.now old mid c.args.cache.now c.find.new.cache (Ok o)) c.in-Some.is (c.in_ok-found.ensures.looks added w rows h) in
    let finds = c.in_ok-ids.ensures.finds added w rows h in
    let flats = flats_in c.view.result in
    let segs = c.view.ensures.graph added w rows h.sees.base_of h.sees.stand h.sees.pending_rows in
    seek-old (payloads_of added) w rows c.args.name.now c.args.parents.now old mid new c.args.cache.now c.find.new.cache c.find_parents.new.cache c.in-Some.id looks ids finds c.has_parents.result
    (λ serving.
    let y = seen-yes (payloads_of added) w rows c.args.name.now c.args.parents.now old mid new c.args.cache.now c.find.new.cache c.find_parents.new.cache c.in-Some.id (looks.right serving) in
    let on = serves (payloads_of added) w rows c.args.name.now c.args.parents.now old mid new c.args.cache.now c.find.new.cache c.find_parents.new.cache (Some c.in-Some.id) looks serving in
    c.has_parents.ensures ∙ same-parents c.args.seen.now.base c.args.seen.now.pending.now added w rows h.sees c.args.name.now c.args.parents.now c.in-Some.id c.deref.result.now flats segs y.0 y.1
    (parents-there (payloads_of added) w rows c.args.name.now c.args.parents.now mid new c.find.new.cache c.find_parents.new.cache ids finds on) (c.deref.ensures.value ∙ finds.right on))
    c.if-not-has_parents.false
