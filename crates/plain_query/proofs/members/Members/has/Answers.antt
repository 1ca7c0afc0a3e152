use Rattle.std.proofs.Common.{◌≡◌, arith, refl, sym, subst, ◌∙◌, true≢false}
use Rattle.std.proofs.lemmas.Option.{slice_get_read}
use Rattle.id_groups.specs.Lists.{IsIn}
use Rattle.id_groups.specs.Name.{Name}
use Rattle.commit_graph.proofs.Places.{item-at, each-at, more-at}
use Rattle.plain_query.proofs.members.Members.has.Goals as goal

pub returns-then-is : goal.returns-then-is
returns-then-is c = (
  λ t. subst (IsIn c.args.name.now) (c.deref-held-items.ensures.value ∙ c.self.view_is)
      (subst (λ (y : Name). IsIn y c.deref-held-items.result.now) (c.if-is.ensures.0 refl)
      (item-at c.deref-held-items.result.now c.loop-held.held-index c.held-item.result
      (slice_get_read c.deref-held-items.result.now _ c.loop-held.held-index c.held-item.result refl c.loop-held-test.true c.held-item.is))),
  λ i. refl,
)

pub loop-held-preserved : goal.loop-held-preserved
loop-held-preserved c =
    more-at (λ (y : Name). y ≡ c.args.name.now → ⊥) c.deref-held-items.result.now c.loop-held.held-index c.held-item.result c.loop-held.invariant c.held-item.is
    (λ e. true≢false (sym (c.if-is.ensures.1 e)))

pub returns : goal.returns
returns c = (
  λ t. absurd (true≢false (sym t)),
  λ i. absurd (each-at (λ (y : Name). y ≡ c.args.name.now → ⊥) c.deref-held-items.result.now
      (λ k y lt at. c.loop-held.invariant k y (omega (arith, lt, c.loop-held-test.false)) at) c.args.name.now
      (subst (IsIn c.args.name.now) (sym (c.deref-held-items.ensures.value ∙ c.self.view_is)) i) refl),
)
