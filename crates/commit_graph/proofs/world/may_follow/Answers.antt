use Rattle.std.proofs.Common.{List, arith, subst, sym, refl, true≢false}
use Rattle.id_groups.specs.Lists.{IsIn, AreAllIn}
use Rattle.id_groups.specs.Name.{Name}
use Rattle.commit_graph.specs.World.{names_of}
use Rattle.commit_graph.proofs.Places.{known-by, unknown-by, more-at, all-at}
use Rattle.commit_graph.proofs.world.may_follow.Goals as goal

pub returns-then-is_some-clause-next : goal.returns-then-is_some-clause-next
returns-then-is_some-clause-next c = (
  λ t. absurd (true≢false (sym t)),
  λ next. absurd (next.fresh (subst (λ (z : Name). IsIn z (names_of c.args.before.now)) c.name.ensures
      (known-by c.args.before.now c.name.result.now c.position_of.result c.position_of.ensures (sym c.if-is_some.ensures)))),
)

pub loop-parent-preserved : goal.loop-parent-preserved
loop-parent-preserved c =
    more-at (λ (p : Name). IsIn p (names_of c.args.before.now)) c.parents-parent-items.result.now c.loop-parent.parent-index c.parent-item.result c.loop-parent.invariant c.parent-item.is
    (known-by c.args.before.now c.parent-item.result c.position_of-in-loop-parent.result c.position_of-in-loop-parent.ensures c.if-is_none.ensures)

pub returns-clause-next : goal.returns-clause-next
returns-clause-next c = (
  λ t. record {
    fresh = subst (λ (z : Name). IsIn z (names_of c.args.before.now) → ⊥) c.name.ensures
        (unknown-by c.args.before.now c.name.result.now c.position_of.result c.position_of.ensures (sym c.if-is_some.ensures));
    known = subst (λ (l : List Name). AreAllIn l (names_of c.args.before.now)) c.parents-parent-items.ensures
        (all-at c.parents-parent-items.result.now (names_of c.args.before.now)
        (λ k p lt at. c.loop-parent.invariant k p (omega (arith, lt, c.loop-parent-test.false)) at));
    distinct = c.is_row.ensures.distinct;
    few = c.is_row.ensures.few;
  },
  λ next. refl,
)
