use Rattle.std.proofs.Common.{map, sym, refl, ◌∙◌, arith}
use Rattle.std.proofs.lemmas.Option.{get_or_from_slice_get}
use Rattle.set_expr.specs.Expr.{commits_in}
use Rattle.set_expr.specs.Whole.{tree_of}
use Rattle.name_map.specs.Added.{payloads_of}
use Rattle.store_plans.proofs.Lines.{err-items, finds-more, finds-none, finds-refused, finds-unkept, finds-whole}
use Rattle.store_queries.proofs.query.find_names.Goals as goal

pub names-init : goal.names-init
names-init g c = record {
  finds_are = λ added w rows h. finds-none (payloads_of added) w rows _ c.args.cache.now _ c.new-ids.ensures.items;
  sound_is = λ s. s;
  len_is = refl;
}

pub returns-in_err-id-clause-finds : goal.returns-in_err-id-clause-finds
returns-in_err-id-clause-finds g c = λ added w rows h.
    let names = commits_in (tree_of c.args.expr.now) in
    let old = map g.R.Remote.shown c.args.mirrors.now.items in
    let mid = map g.R.Remote.shown c.names.mirrors.items in
    let new = map g.R.Remote.shown c.find_seen.new.mirrors.items in
    err-items (payloads_of added) w rows names old new c.args.cache.now c.find_seen.new.cache c.from_residual.result c.in_err-id.field-0.0 c.from_residual.ensures.1
    (finds-refused (payloads_of added) w rows names c.names.k c.name_at.result.now (let lt = c.names-test.true in let n = c.name_count-k-end.ensures in omega (arith, lt, n)) (sym (get_or_from_slice_get names c.names.k c.name_at.result.now c.name_at.result.now c.name_at.ensures)) old mid new c.args.cache.now c.names.cache c.find_seen.new.cache c.names.ids.items
    (c.names.invariant.finds_are added w rows h) c.in_err-id.field-0.0 (c.in_err-id.ensures.finds added w rows h))

pub returns-in_default-clause-finds : goal.returns-in_default-clause-finds
returns-in_default-clause-finds g c = λ added w rows h.
    let names = commits_in (tree_of c.args.expr.now) in
    let old = map g.R.Remote.shown c.args.mirrors.now.items in
    let mid = map g.R.Remote.shown c.names.mirrors.items in
    let new = map g.R.Remote.shown c.find_seen.new.mirrors.items in
    finds-unkept (payloads_of added) w rows names c.names.k c.name_at.result.now (let lt = c.names-test.true in let n = c.name_count-k-end.ensures in omega (arith, lt, n)) (sym (get_or_from_slice_get names c.names.k c.name_at.result.now c.name_at.result.now c.name_at.ensures)) old mid new c.args.cache.now c.names.cache c.find_seen.new.cache c.names.ids.items c.in_ok-id.id
    (c.names.invariant.finds_are added w rows h) (c.in_ok-id.ensures.finds added w rows h)

pub names-preserved : goal.names-preserved
names-preserved g c = record {
  finds_are = λ added w rows h.
      let names = commits_in (tree_of c.args.expr.now) in
      let old = map g.R.Remote.shown c.args.mirrors.now.items in
      let mid = map g.R.Remote.shown c.names.mirrors.items in
      let new = map g.R.Remote.shown c.find_seen.new.mirrors.items in
      finds-more (payloads_of added) w rows names c.names.k c.name_at.result.now (let lt = c.names-test.true in let n = c.name_count-k-end.ensures in omega (arith, lt, n)) (sym (get_or_from_slice_get names c.names.k c.name_at.result.now c.name_at.result.now c.name_at.ensures)) old mid new c.args.cache.now c.names.cache c.find_seen.new.cache c.names.ids.items
      (c.names.invariant.finds_are added w rows h) c.in_ok-id.id c.push.new.self.items (c.in_ok-id.ensures.finds added w rows h) c.in-Ok.ensures.items;
  sound_is = λ h. c.find_seen.ensures.sound (c.names.invariant.sound_is h);
  len_is = c.find_seen.ensures.len ∙ c.names.invariant.len_is;
}

pub returns-clause-finds : goal.returns-clause-finds
returns-clause-finds g c = λ added w rows h.
    let names = commits_in (tree_of c.args.expr.now) in
    finds-whole (payloads_of added) w rows names c.names.k (let ge = c.names-test.false in let n = c.name_count-k-end.ensures in omega (arith, ge, n)) _ _ c.args.cache.now c.names.cache c.names.ids.items (c.names.invariant.finds_are added w rows h)
