use Rattle.std.proofs.Common.{◌++◌, ◌∷◌, [], length, map, take, string_bytes, refl, sym, subst, ◌≤◌, arith}
use Rattle.std.proofs.lemmas.Option.{slice_get_read}
use Rattle.segdag.specs.Mirrors.{AreMadeOf}
use Rattle.segdag.proofs.Mirrors.{mapped, whole}
use Rattle.segdag.proofs.remotes.mirrors_of.Goals as goal

pub remotes-init : goal.remotes-init
remotes-init c = (
  subst (λ items. length items ≤ 0) (sym c.new-list.ensures.items) (omega arith),
  c.new-list.ensures.items,
)

pub remotes-preserved : goal.remotes-preserved
remotes-preserved c = (
  (let f = c.in_ok-add_mirror.ensures.few in let h = c.remotes.invariant.0 in omega (arith, f, h)),
  subst (λ words. AreMadeOf c.args.is_run words c.add_mirror.new.list.items) (sym (mapped string_bytes c.args.remotes.now c.remotes.word-index c.word-item.result (slice_get_read c.args.remotes.now (length c.args.remotes.now) c.remotes.word-index c.word-item.result refl c.remotes-test.true c.word-item.is)))
      (subst (λ word. AreMadeOf c.args.is_run (map string_bytes (take c.remotes.word-index c.args.remotes.now) ++ word ∷ []) c.add_mirror.new.list.items) c.as_str.ensures.value
      (c.in_ok-add_mirror.ensures.added (map string_bytes (take c.remotes.word-index c.args.remotes.now)) c.remotes.invariant.1)),
)

pub returns-clause-few : goal.returns-clause-few
returns-clause-few c = let h = c.remotes.invariant.0 in let e = c.remotes.auto.word-index-end in let r = c.requires in omega (arith, h, e, r)

pub returns-clause-made : goal.returns-clause-made
returns-clause-made c =
    subst (λ words. AreMadeOf c.args.is_run (map string_bytes words) c.remotes.list.items) (whole c.remotes.word-index c.args.remotes.now c.remotes-test.false) c.remotes.invariant.1
