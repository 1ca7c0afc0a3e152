use Rattle.std.proofs.Common.{arith, refl, sym, true≢false}
use Rattle.id_groups.specs.Lists.{IsIn}
use Rattle.id_groups.specs.Name.{Name}
use Rattle.commit_graph.proofs.Places.{each-at, more-at, read-at}
use Rattle.plain_query.proofs.members.Members.has_any.Goals as goal

pub returns-then-has : goal.returns-then-has
returns-then-has c = (
  λ t. (c.name-item.result, read-at c.args.names.now c.loop-name.name-index c.name-item.result c.loop-name-test.true c.name-item.is, c.if-has.ensures.0 refl),
  λ s. refl,
)

pub loop-name-preserved : goal.loop-name-preserved
loop-name-preserved c =
    more-at (λ (x : Name). IsIn x c.args.self.now → ⊥) c.args.names.now c.loop-name.name-index c.name-item.result c.loop-name.invariant c.name-item.is
    (λ i. true≢false (sym (c.if-has.ensures.1 i)))

pub returns : goal.returns
returns c = (
  λ t. absurd (true≢false (sym t)),
  λ s. absurd (each-at (λ (x : Name). IsIn x c.args.self.now → ⊥) c.args.names.now
      (λ k x lt at. c.loop-name.invariant k x (omega (arith, lt, c.loop-name-test.false)) at) s.0 s.1 s.2),
)
