use Rattle.std.proofs.Common.{◌∙◌, List, refl, sym, subst, true≢false}
use Rattle.std.specs.Prelude.{◌↔◌}
use Rattle.id_groups.specs.Lists.{IsIn}
use Rattle.id_groups.specs.Name.{Name}
use Rattle.plain_query.proofs.Collecting.{kept-put, kept-left, kept-all, at-place}
use Rattle.plain_query.proofs.members.Members.minus.Goals as goal
use Rattle.plain_query.proofs.members.Members.minus.Goals.{then-not-has+in_ok-add, else-not-has}

pub loop-name-preserved : goal.loop-name-preserved
loop-name-preserved c = elim c.if-not-has.branch [
  | then-not-has+in_ok-add w ↦
      kept-put c.deref-name-items.result.now (λ (x : Name). IsIn x c.args.other.now → ⊥) c.loop-name.name-index c.name-item.result
      (at-place c.deref-name-items.result.now c.loop-name.name-index c.name-item.result c.loop-name-test.true c.name-item.is) c.loop-name.members c.loop-name.invariant
      (λ i. true≢false (sym (w.if-not-has.ensures.1 i))) w.add.new.self w.in_ok-add.ensures c.if-not-has.members w.members-is
  | else-not-has w ↦
      kept-left c.deref-name-items.result.now (λ (x : Name). IsIn x c.args.other.now → ⊥) c.loop-name.name-index c.name-item.result
      (at-place c.deref-name-items.result.now c.loop-name.name-index c.name-item.result c.loop-name-test.true c.name-item.is) c.loop-name.members c.loop-name.invariant
      (λ off. off (w.if-not-has.ensures.0 refl)) c.if-not-has.members w.members-is
]

pub returns : goal.returns
returns c = λ x.
    subst (λ (l : List Name). IsIn x c.loop-name.members ↔ (IsIn x l × (λ (x : Name). IsIn x c.args.other.now → ⊥) x)) (c.deref-name-items.ensures.value ∙ c.self.view_is)
    (kept-all c.deref-name-items.result.now (λ (x : Name). IsIn x c.args.other.now → ⊥) c.loop-name.name-index c.loop-name-test.false c.loop-name.members c.loop-name.invariant x)
