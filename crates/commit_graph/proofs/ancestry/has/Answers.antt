use Rattle.std.proofs.Common.{◌≡◌, arith, refl, sym, subst, true≢false}
use Rattle.id_groups.specs.Lists.{IsIn}
use Rattle.id_groups.specs.Name.{Name}
use Rattle.commit_graph.proofs.Places.{each-at, more-at, read-at}
use Rattle.commit_graph.proofs.ancestry.has.Goals as goal

pub returns-then-is : goal.returns-then-is
returns-then-is c = (
  λ t. subst (λ (y : Name). IsIn y c.args.names.now) (c.if-is.ensures.0 refl)
      (read-at c.args.names.now c.loop-held.held-index c.held-item.result c.loop-held-test.true c.held-item.is),
  λ i. refl,
)

pub loop-held-preserved : goal.loop-held-preserved
loop-held-preserved c =
    more-at (λ (y : Name). y ≡ c.args.name.now → ⊥) c.args.names.now c.loop-held.held-index c.held-item.result c.loop-held.invariant c.held-item.is
    (λ e. true≢false (sym (c.if-is.ensures.1 e)))

pub returns : goal.returns
returns c = (
  λ t. absurd (true≢false (sym t)),
  λ i. absurd (each-at (λ (y : Name). y ≡ c.args.name.now → ⊥) c.args.names.now
      (λ k y lt at. c.loop-held.invariant k y (omega (arith, lt, c.loop-held-test.false)) at) c.args.name.now i refl),
)
