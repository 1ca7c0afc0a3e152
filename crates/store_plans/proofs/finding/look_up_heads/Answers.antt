use Rattle.std.proofs.Common.{◌∙◌, map, refl, arith}
use Rattle.name_map.specs.Added.{payloads_of}
use Rattle.change_parts.specs.Asked.{IsFoundIn}
use Rattle.store_plans.specs.Changes.{IsHeadFound, head_test}
use Rattle.store_plans.proofs.FindLists.{each-more, each-none, each-refused, each-unkept, each-whole, err-each}
use Rattle.store_plans.proofs.finding.look_up_heads.Goals as goal

pub heads-init : goal.heads-init
heads-init g c = record {
  finds_are = λ added w rows h n. each-none added w (head_test (payloads_of added) w rows) (IsFoundIn added) (IsHeadFound w rows) _ c.args.cache.now _ c.new-found.ensures.items;
  sound_is = λ s. s;
  len_is = refl;
}

pub returns-in_err-id-clause-finds : goal.returns-in_err-id-clause-finds
returns-in_err-id-clause-finds g c = λ added w rows h n.
    let old = map g.R.Remote.shown c.args.mirrors.now.items in
    let mid = map g.R.Remote.shown c.heads.mirrors.items in
    let new = map g.R.Remote.shown c.find_head.new.mirrors.items in
    err-each added w (head_test (payloads_of added) w rows) (IsFoundIn added) (IsHeadFound w rows) c.args.heads.now old new c.args.cache.now c.find_head.new.cache c.from_residual.result c.in_err-id.field-0.0 c.from_residual.ensures.1
    (each-refused added w (head_test (payloads_of added) w rows) (IsFoundIn added) (IsHeadFound w rows) c.args.heads.now c.heads.head-index c.head-item.result c.heads-test.true c.head-item.is old mid new c.args.cache.now c.heads.cache c.find_head.new.cache
    c.heads.found.items (c.heads.invariant.finds_are added w rows h n) c.in_err-id.field-0.0 (c.in_err-id.ensures.finds added w rows h n))

pub returns-in_err-id-clause-sound : goal.returns-in_err-id-clause-sound
returns-in_err-id-clause-sound g c = λ h. c.find_head.ensures.sound (c.heads.invariant.sound_is h)

pub returns-in_err-id-clause-len : goal.returns-in_err-id-clause-len
returns-in_err-id-clause-len g c = c.find_head.ensures.len ∙ c.heads.invariant.len_is

pub returns-in_default-clause-finds : goal.returns-in_default-clause-finds
returns-in_default-clause-finds g c = λ added w rows h n.
    let old = map g.R.Remote.shown c.args.mirrors.now.items in
    let mid = map g.R.Remote.shown c.heads.mirrors.items in
    let new = map g.R.Remote.shown c.find_head.new.mirrors.items in
    each-unkept added w (head_test (payloads_of added) w rows) (IsFoundIn added) (IsHeadFound w rows) c.args.heads.now c.heads.head-index c.head-item.result c.heads-test.true c.head-item.is old mid new c.args.cache.now c.heads.cache c.find_head.new.cache
    c.heads.found.items c.in_ok-id.id (c.heads.invariant.finds_are added w rows h n) (c.in_ok-id.ensures.finds added w rows h n)

pub heads-preserved : goal.heads-preserved
heads-preserved g c = record {
  finds_are = λ added w rows h n.
      let old = map g.R.Remote.shown c.args.mirrors.now.items in
      let mid = map g.R.Remote.shown c.heads.mirrors.items in
      let new = map g.R.Remote.shown c.find_head.new.mirrors.items in
      each-more added w (head_test (payloads_of added) w rows) (IsFoundIn added) (IsHeadFound w rows) c.args.heads.now c.heads.head-index c.head-item.result c.heads-test.true c.head-item.is old mid new c.args.cache.now c.heads.cache c.find_head.new.cache
      c.heads.found.items (c.heads.invariant.finds_are added w rows h n) c.in_ok-id.id c.push.new.self.items (c.in_ok-id.ensures.finds added w rows h n) c.in-Ok.ensures.items;
  sound_is = λ h. c.find_head.ensures.sound (c.heads.invariant.sound_is h);
  len_is = c.find_head.ensures.len ∙ c.heads.invariant.len_is;
}

pub returns-clause-finds : goal.returns-clause-finds
returns-clause-finds g c = λ added w rows h n.
    each-whole added w (head_test (payloads_of added) w rows) (IsFoundIn added) (IsHeadFound w rows) c.args.heads.now c.heads.head-index (let ge = c.heads-test.false in omega (arith, ge)) _ _ c.args.cache.now c.heads.cache c.heads.found.items
    (c.heads.invariant.finds_are added w rows h n)
