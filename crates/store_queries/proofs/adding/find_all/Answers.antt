use Rattle.std.proofs.Common.{map, length, refl, ◌∙◌, arith, [], ◌∷◌, ap, ℕ, zero-le, length-append}
use Rattle.name_map.specs.Added.{payloads_of}
use Rattle.store_plans.proofs.Lines.{err-items, finds-memory, finds-more, finds-none, finds-refused, finds-unkept, finds-whole}
use Rattle.store_queries.proofs.adding.find_all.Goals as goal

pub returns-in_default-clause-finds : goal.returns-in_default-clause-finds
returns-in_default-clause-finds g c = λ added w rows h.
    finds-memory (payloads_of added) w rows c.args.names.now 0 _ _ c.args.cache.now c.args.cache.now [] (finds-none (payloads_of added) w rows _ c.args.cache.now [] refl)

pub names-init : goal.names-init
names-init g c = record {
  finds_are = λ added w rows h. finds-none (payloads_of added) w rows _ c.args.cache.now _ c.in-Ok.ensures.items;
  sound_is = λ s. s;
  len_is = refl;
  count_is = (ap (length {A = ℕ}) c.in-Ok.ensures.items, zero-le);
}

pub returns-in_err-id-clause-finds : goal.returns-in_err-id-clause-finds
returns-in_err-id-clause-finds g c = λ added w rows h.
    let names = c.args.names.now in
    let old = map g.R.Remote.shown c.args.mirrors.now.items in
    let mid = map g.R.Remote.shown c.names.mirrors.items in
    let new = map g.R.Remote.shown c.find_seen.new.mirrors.items in
    err-items (payloads_of added) w rows names old new c.args.cache.now c.find_seen.new.cache c.from_residual.result c.in_err-id.field-0.0 c.from_residual.ensures.1
    (finds-refused (payloads_of added) w rows names c.names.name-index c.name-item.result c.names-test.true c.name-item.is old mid new c.args.cache.now c.names.cache c.find_seen.new.cache c.names.ids.items
    (c.names.invariant.finds_are added w rows h) c.in_err-id.field-0.0 (c.in_err-id.ensures.finds added w rows h))

pub returns-in_default-push-clause-finds : goal.returns-in_default-push-clause-finds
returns-in_default-push-clause-finds g c = λ added w rows h.
    let names = c.args.names.now in
    let old = map g.R.Remote.shown c.args.mirrors.now.items in
    let mid = map g.R.Remote.shown c.names.mirrors.items in
    let new = map g.R.Remote.shown c.find_seen.new.mirrors.items in
    finds-unkept (payloads_of added) w rows names c.names.name-index c.name-item.result c.names-test.true c.name-item.is old mid new c.args.cache.now c.names.cache c.find_seen.new.cache c.names.ids.items c.in_ok-id.id
    (c.names.invariant.finds_are added w rows h) (c.in_ok-id.ensures.finds added w rows h)

pub names-preserved : goal.names-preserved
names-preserved g c = record {
  finds_are = λ added w rows h.
      let names = c.args.names.now in
      let old = map g.R.Remote.shown c.args.mirrors.now.items in
      let mid = map g.R.Remote.shown c.names.mirrors.items in
      let new = map g.R.Remote.shown c.find_seen.new.mirrors.items in
      finds-more (payloads_of added) w rows names c.names.name-index c.name-item.result c.names-test.true c.name-item.is old mid new c.args.cache.now c.names.cache c.find_seen.new.cache c.names.ids.items
      (c.names.invariant.finds_are added w rows h) c.in_ok-id.id c.push.new.self.items (c.in_ok-id.ensures.finds added w rows h) c.in-Ok-push.ensures.items;
  sound_is = λ h. c.find_seen.ensures.sound (c.names.invariant.sound_is h);
  len_is = c.find_seen.ensures.len ∙ c.names.invariant.len_is;
  count_is = (ap (length {A = ℕ}) c.in-Ok-push.ensures.items ∙ length-append c.names.ids.items (c.in_ok-id.id ∷ []) ∙ (let n = c.names.invariant.count_is.0 in omega (arith, n)), (let lt = c.names-test.true in omega (arith, lt)));
}

pub returns-clause-finds : goal.returns-clause-finds
returns-clause-finds g c = λ added w rows h.
    let names = c.args.names.now in
    finds-whole (payloads_of added) w rows names c.names.name-index (let ge = c.names-test.false in omega (arith, ge)) _ _ c.args.cache.now c.names.cache c.names.ids.items (c.names.invariant.finds_are added w rows h)

pub returns-clause-count : goal.returns-clause-count
returns-clause-count g c = let n = c.names.invariant.count_is.0 in let le = c.names.invariant.count_is.1 in let ge = c.names-test.false in omega (arith, n, le, ge)
