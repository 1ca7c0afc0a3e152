use Rattle.std.proofs.Common.{◌∙◌, ◌∷◌, [], Err, Ok, map, length, refl, sym, ap, subst, arith, length-append, zero-le}
use Rattle.name_map.specs.Added.{payloads_of}
use Rattle.payload_tables.specs.Pending.{PlainPending}
use Rattle.change_parts.specs.Asked.{IsFoundIn}
use Rattle.store_plans.specs.Changes.{HaveNames, IsRowFound, row_test}
use Rattle.store_plans.specs.Looking.{Looks}
use Rattle.store_plans.proofs.HeadTests.{row-finds}
use Rattle.store_plans.proofs.FindLists.{each-more, each-none, each-refused, each-unkept, each-whole, err-each, name-there, names-over}
use Rattle.store_plans.proofs.finding.look_up_rows.Goals as goal

pub rows-init : goal.rows-init
rows-init g c = record {
  pending_is = refl;
  finds_are = λ added w names h n. each-none added w (row_test (payloads_of added) w) (IsFoundIn added) (IsRowFound w) _ c.args.cache.now _ c.new-found.ensures.items;
  count_is = (ap (length {A = _}) c.new-found.ensures.items, zero-le);
  sound_is = λ s. s;
  len_is = refl;
}

pub returns-in_err-id-clause-finds : goal.returns-in_err-id-clause-finds
returns-in_err-id-clause-finds g c = λ added w names h n.
    let old = map g.R.Remote.shown c.args.mirrors.now.items in
    let mid = map g.R.Remote.shown c.rows.mirrors.items in
    let new = map g.R.Remote.shown c.find.new.mirrors.items in
    let here = subst (λ (p : PlainPending). HaveNames p names) (sym c.rows.invariant.pending_is) n in
    let at = name-there c.args.session.now.pending names here c.len-i-end.result c.len-i-end.ensures.len c.rows.i c.name.result.bytes.now c.rows-test.true c.name.ensures in
    err-each added w (row_test (payloads_of added) w) (IsFoundIn added) (IsRowFound w) names old new c.args.cache.now c.find.new.cache c.from_residual.result c.in_err-id.field-0.0 c.from_residual.ensures.1
    (each-refused added w (row_test (payloads_of added) w) (IsFoundIn added) (IsRowFound w) names c.rows.i c.name.result.bytes.now at.0 at.1 old mid new c.args.cache.now c.rows.cache c.find.new.cache
    c.rows.found.items (c.rows.invariant.finds_are added w names h n) c.in_err-id.field-0.0
    (row-finds c.args.newest.now.base c.args.newest.now.pending.now added w h.sees c.name.result.bytes.now mid new c.rows.cache c.find.new.cache (Err c.in_err-id.field-0.0)
    (subst (λ z. Looks (payloads_of added) w [] z mid new c.rows.cache c.find.new.cache (Err c.in_err-id.field-0.0)) c.to_name-name.ensures (c.in_err-id.ensures.looks added w [] h))))

pub returns-in_default-clause-finds : goal.returns-in_default-clause-finds
returns-in_default-clause-finds g c = λ added w names h n.
    let old = map g.R.Remote.shown c.args.mirrors.now.items in
    let mid = map g.R.Remote.shown c.rows.mirrors.items in
    let new = map g.R.Remote.shown c.find.new.mirrors.items in
    let here = subst (λ (p : PlainPending). HaveNames p names) (sym c.rows.invariant.pending_is) n in
    let at = name-there c.args.session.now.pending names here c.len-i-end.result c.len-i-end.ensures.len c.rows.i c.name.result.bytes.now c.rows-test.true c.name.ensures in
    each-unkept added w (row_test (payloads_of added) w) (IsFoundIn added) (IsRowFound w) names c.rows.i c.name.result.bytes.now at.0 at.1 old mid new c.args.cache.now c.rows.cache c.find.new.cache
    c.rows.found.items c.in_ok-id.id (c.rows.invariant.finds_are added w names h n)
    (row-finds c.args.newest.now.base c.args.newest.now.pending.now added w h.sees c.name.result.bytes.now mid new c.rows.cache c.find.new.cache (Ok c.in_ok-id.id)
    (subst (λ z. Looks (payloads_of added) w [] z mid new c.rows.cache c.find.new.cache (Ok c.in_ok-id.id)) c.to_name-name.ensures (c.in_ok-id.ensures.looks added w [] h)))

pub rows-preserved : goal.rows-preserved
rows-preserved g c = record {
  pending_is = c.rows.invariant.pending_is;
  finds_are = λ added w names h n.
      let old = map g.R.Remote.shown c.args.mirrors.now.items in
      let mid = map g.R.Remote.shown c.rows.mirrors.items in
      let new = map g.R.Remote.shown c.find.new.mirrors.items in
      let here = subst (λ (p : PlainPending). HaveNames p names) (sym c.rows.invariant.pending_is) n in
      let at = name-there c.args.session.now.pending names here c.len-i-end.result c.len-i-end.ensures.len c.rows.i c.name.result.bytes.now c.rows-test.true c.name.ensures in
      each-more added w (row_test (payloads_of added) w) (IsFoundIn added) (IsRowFound w) names c.rows.i c.name.result.bytes.now at.0 at.1 old mid new c.args.cache.now c.rows.cache c.find.new.cache
      c.rows.found.items (c.rows.invariant.finds_are added w names h n) c.in_ok-id.id c.push.new.self.items
      (row-finds c.args.newest.now.base c.args.newest.now.pending.now added w h.sees c.name.result.bytes.now mid new c.rows.cache c.find.new.cache (Ok c.in_ok-id.id)
      (subst (λ z. Looks (payloads_of added) w [] z mid new c.rows.cache c.find.new.cache (Ok c.in_ok-id.id)) c.to_name-name.ensures (c.in_ok-id.ensures.looks added w [] h))) c.in-Ok.ensures.items;
  count_is = (
    ap (length {A = _}) c.in-Ok.ensures.items ∙ length-append c.rows.found.items (c.in_ok-id.id ∷ []) ∙ (let n = c.rows.invariant.count_is.0 in omega (arith, n)),
    (let lt = c.rows-test.true in omega (arith, lt)),
  );
  sound_is = λ h. c.find.ensures.sound (c.rows.invariant.sound_is h);
  len_is = c.find.ensures.len ∙ c.rows.invariant.len_is;
}

pub returns-clause-finds : goal.returns-clause-finds
returns-clause-finds g c = λ added w names h n.
    let here = subst (λ (p : PlainPending). HaveNames p names) (sym c.rows.invariant.pending_is) n in
    each-whole added w (row_test (payloads_of added) w) (IsFoundIn added) (IsRowFound w) names c.rows.i (names-over c.args.session.now.pending names here c.len-i-end.result c.len-i-end.ensures.len c.rows.i c.rows-test.false) _ _ c.args.cache.now c.rows.cache
    c.rows.found.items (c.rows.invariant.finds_are added w names h n)
