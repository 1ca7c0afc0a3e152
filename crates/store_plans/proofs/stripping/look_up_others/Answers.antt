use Rattle.std.proofs.Common.{◌∙◌, map, refl, arith}
use Rattle.name_map.specs.Added.{payloads_of}
use Rattle.store_plans.specs.Strips.{IsOtherOf, MayBeOther, strip_test}
use Rattle.store_plans.proofs.FindLists.{each-more, each-none, each-refused, each-unkept, each-whole, err-each}
use Rattle.store_plans.proofs.stripping.look_up_others.Goals as goal

pub names-init : goal.names-init
names-init g c = record {
  finds_are = λ added w h. each-none added w (strip_test (payloads_of added) w) (MayBeOther added) (IsOtherOf w) _ c.args.cache.now _ c.new-ids.ensures.items;
  sound_is = λ h. h;
  len_is = refl;
}

pub returns-in_err-id-clause-finds : goal.returns-in_err-id-clause-finds
returns-in_err-id-clause-finds g c = λ added w h.
    let old = map g.R.Remote.shown c.args.mirrors.now.items in
    let mid = map g.R.Remote.shown c.names.mirrors.items in
    let new = map g.R.Remote.shown c.find_other.new.mirrors.items in
    err-each added w (strip_test (payloads_of added) w) (MayBeOther added) (IsOtherOf w) c.args.names.now old new c.args.cache.now c.find_other.new.cache c.from_residual.result c.in_err-id.field-0.0 c.from_residual.ensures.1
    (each-refused added w (strip_test (payloads_of added) w) (MayBeOther added) (IsOtherOf w) c.args.names.now c.names.name-index c.name-item.result c.names-test.true c.name-item.is old mid new c.args.cache.now c.names.cache c.find_other.new.cache
    c.names.ids.items (c.names.invariant.finds_are added w h) c.in_err-id.field-0.0 (c.in_err-id.ensures.finds added w h))

pub returns-in_err-id-clause-sound : goal.returns-in_err-id-clause-sound
returns-in_err-id-clause-sound g c = λ h. c.find_other.ensures.sound (c.names.invariant.sound_is h)

pub returns-in_err-id-clause-len : goal.returns-in_err-id-clause-len
returns-in_err-id-clause-len g c = c.find_other.ensures.len ∙ c.names.invariant.len_is

pub returns-in_default-clause-finds : goal.returns-in_default-clause-finds
returns-in_default-clause-finds g c = λ added w h.
    let old = map g.R.Remote.shown c.args.mirrors.now.items in
    let mid = map g.R.Remote.shown c.names.mirrors.items in
    let new = map g.R.Remote.shown c.find_other.new.mirrors.items in
    each-unkept added w (strip_test (payloads_of added) w) (MayBeOther added) (IsOtherOf w) c.args.names.now c.names.name-index c.name-item.result c.names-test.true c.name-item.is old mid new c.args.cache.now c.names.cache c.find_other.new.cache
    c.names.ids.items c.in_ok-id.id (c.names.invariant.finds_are added w h) (c.in_ok-id.ensures.finds added w h)

pub names-preserved : goal.names-preserved
names-preserved g c = record {
  finds_are = λ added w h.
      let old = map g.R.Remote.shown c.args.mirrors.now.items in
      let mid = map g.R.Remote.shown c.names.mirrors.items in
      let new = map g.R.Remote.shown c.find_other.new.mirrors.items in
      each-more added w (strip_test (payloads_of added) w) (MayBeOther added) (IsOtherOf w) c.args.names.now c.names.name-index c.name-item.result c.names-test.true c.name-item.is old mid new c.args.cache.now c.names.cache c.find_other.new.cache
      c.names.ids.items (c.names.invariant.finds_are added w h) c.in_ok-id.id c.push.new.self.items (c.in_ok-id.ensures.finds added w h) c.in-Ok.ensures.items;
  sound_is = λ h. c.find_other.ensures.sound (c.names.invariant.sound_is h);
  len_is = c.find_other.ensures.len ∙ c.names.invariant.len_is;
}

pub returns-clause-finds : goal.returns-clause-finds
returns-clause-finds g c = λ added w h.
    each-whole added w (strip_test (payloads_of added) w) (MayBeOther added) (IsOtherOf w) c.args.names.now c.names.name-index (let ge = c.names-test.false in omega (arith, ge)) _ _ c.args.cache.now c.names.cache c.names.ids.items
    (c.names.invariant.finds_are added w h)
