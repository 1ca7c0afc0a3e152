use Rattle.std.proofs.Common.{◌∙◌, ℕ, ap, length, subst, sym}
use Rattle.id_groups.specs.Lists.{AreDistinct}
use Rattle.name_map.specs.Added.{payloads_of}
use Rattle.store_queries.proofs.Parents.{err-parents, parents-found, parents-same, parents-refused, parents-twice}
use Rattle.store_queries.proofs.adding.find_parents.Goals as goal

pub returns-in_err-ids-clause-finds : goal.returns-in_err-ids-clause-finds
returns-in_err-ids-clause-finds g c = λ added w rows h.
    err-parents (payloads_of added) w rows c.args.parents.now _ _ c.args.cache.now c.find_all.new.cache c.from_residual.result c.in_err-ids.field-0.0 c.from_residual.ensures.1
    (parents-refused (payloads_of added) w rows c.args.parents.now _ _ c.args.cache.now c.find_all.new.cache c.in_err-ids.field-0.0 (c.in_err-ids.ensures.finds added w rows h))

pub returns-in_err-refuse_twice-clause-finds : goal.returns-in_err-refuse_twice-clause-finds
returns-in_err-refuse_twice-clause-finds g c = λ added w rows h.
    err-parents (payloads_of added) w rows c.args.parents.now _ _ c.args.cache.now c.find_all.new.cache c.from_residual-in_err-refuse_twice.result c.in_err-refuse_twice.field-0.0 c.from_residual-in_err-refuse_twice.ensures.1
    (parents-twice (payloads_of added) w rows c.args.parents.now _ _ c.args.cache.now c.find_all.new.cache c.in_ok-ids.ids.items (c.in_ok-ids.ensures.finds added w rows h) c.in_err-refuse_twice.field-0.0 c.in_err-refuse_twice.ensures)

pub returns-in_err-refuse_same-clause-finds : goal.returns-in_err-refuse_same-clause-finds
returns-in_err-refuse_same-clause-finds g c = λ added w rows h.
    err-parents (payloads_of added) w rows c.args.parents.now _ _ c.args.cache.now c.find_all.new.cache c.from_residual-in_err-refuse_same.result c.in_err-refuse_same.field-0.0 c.from_residual-in_err-refuse_same.ensures.1
    (parents-same c.args.seen.now.base c.args.seen.now.pending.now added w rows h.sees c.args.parents.now _ _ c.args.cache.now c.find_all.new.cache c.in_ok-ids.ids.items (c.in_ok-ids.ensures.finds added w rows h) c.in_ok-refuse_twice.ensures
    (subst (λ l. AreDistinct l → ⊥) c.deref.ensures.value c.in_err-refuse_same.ensures.0) c.in_err-refuse_same.field-0.0 c.in_err-refuse_same.ensures.1)

pub refuse_same-requires : goal.refuse_same-requires
refuse_same-requires g c = sym (ap (length {A = ℕ}) c.deref.ensures.value ∙ c.in_ok-ids.ensures.count)

pub returns-clause-finds : goal.returns-clause-finds
returns-clause-finds g c = λ added w rows h.
    parents-found (payloads_of added) w rows c.args.parents.now _ _ c.args.cache.now c.find_all.new.cache c.in_ok-ids.ids.items (c.in_ok-ids.ensures.finds added w rows h) c.in_ok-refuse_twice.ensures
