use Rattle.std.proofs.Common.{arith, refl, sym, true≢false}
use Rattle.id_groups.specs.Name.{same_name}
use Rattle.id_groups.proofs.Names.{same_name-exact, same_name-self}
use Rattle.commit_graph.specs.World.{rows_of}
use Rattle.id_groups.specs.Lists.{IsIn}
use Rattle.id_groups.specs.Name.{Name}
use Rattle.std.proofs.Common.{List, subst}
use Rattle.plain_query.proofs.Collecting.{HasParentIn, chosen-put, chosen-left, chosen-all, children-all}
use Rattle.plain_query.proofs.walks.children_of.Goals as goal
use Rattle.plain_query.proofs.walks.children_of.Goals.{then-has_any+in_ok-add, else-has_any}

pub loop-place-preserved : goal.loop-place-preserved
loop-place-preserved c = elim c.if-has_any.branch [
  | then-has_any+in_ok-add w ↦
      chosen-put (rows_of c.args.world.now) (HasParentIn c.args.set.now) c.loop-place.place c.row_at_place-row.result.now c.row_at_place-row.ensures
      c.loop-place.members c.loop-place.invariant
      (subst (λ (l : List Name). (p : Name) × IsIn p l × IsIn p c.args.set.now) c.parents.ensures (w.if-has_any.ensures.0 refl))
      w.name.result.now w.name.ensures w.add.new.self w.in_ok-add.ensures c.if-has_any.members w.members-is
  | else-has_any w ↦
      chosen-left (rows_of c.args.world.now) (HasParentIn c.args.set.now) c.loop-place.place c.row_at_place-row.result.now c.row_at_place-row.ensures
      c.loop-place.members c.loop-place.invariant
      (λ t. true≢false (sym (w.if-has_any.ensures.1 (subst (λ (l : List Name). (p : Name) × IsIn p l × IsIn p c.args.set.now) (sym c.parents.ensures) t))))
      c.if-has_any.members w.members-is
]

pub returns : goal.returns
returns c =
    children-all same_name same_name-exact same_name-self c.args.world.now c.row_count-place-end.ensures.world c.args.set.now c.loop-place.members
    (chosen-all (rows_of c.args.world.now) (HasParentIn c.args.set.now) c.loop-place.place
    (omega (arith, c.loop-place-test.false, c.row_count-place-end.ensures.count)) c.loop-place.members c.loop-place.invariant)
