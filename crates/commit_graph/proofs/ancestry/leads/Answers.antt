use Rattle.std.proofs.Common.{◌∙◌, arith, inr, refl, sym, subst, ⊎_elim, true≢false}
use Rattle.id_groups.specs.Lists.{IsIn}
use Rattle.id_groups.specs.Name.{Name}
use Rattle.commit_graph.proofs.Places.{each-at, more-at, read-at}
use Rattle.commit_graph.proofs.ancestry.leads.Goals as goal

pub returns-then-has : goal.returns-then-has
returns-then-has c = (
  λ t. inr (
    c.parent-item.result,
    subst (IsIn c.parent-item.result) c.parents-parent-items.ensures
        (read-at c.parents-parent-items.result.now c.loop-parent.parent-index c.parent-item.result c.loop-parent-test.true c.parent-item.is),
    c.if-has.ensures.0 refl,
  ),
  λ s. refl,
)

pub loop-parent-preserved : goal.loop-parent-preserved
loop-parent-preserved c =
    more-at (λ (p : Name). IsIn p c.args.leading.now → ⊥) c.parents-parent-items.result.now c.loop-parent.parent-index c.parent-item.result
    c.loop-parent.invariant c.parent-item.is (λ i. true≢false (sym (c.if-has.ensures.1 i)))

pub returns : goal.returns
returns c = (
  λ t. absurd (true≢false (sym t)),
  λ s. absurd (⊎_elim
      (λ e. true≢false (sym (c.if-is.ensures.1 (c.name.ensures ∙ e))))
      (λ t. each-at (λ (p : Name). IsIn p c.args.leading.now → ⊥) c.parents-parent-items.result.now
      (λ k p lt at. c.loop-parent.invariant k p (omega (arith, lt, c.loop-parent-test.false)) at)
      t.0 (subst (IsIn t.0) (sym c.parents-parent-items.ensures) t.1) t.2)
      s),
)
