use Rattle.std.proofs.Common.{List, subst, arith, refl, sym, true≢false}
use Rattle.id_groups.specs.Name.{same_name}
use Rattle.id_groups.proofs.Names.{same_name-exact, same_name-self}
use Rattle.id_groups.specs.Lists.{IsIn}
use Rattle.id_groups.specs.Name.{Name}
use Rattle.commit_graph.specs.World.{rows_of}
use Rattle.commit_graph.specs.Graph.{graph_of}
use Rattle.plain_query.proofs.Collecting.{led-none, led-put, led-left, led-all}
use Rattle.plain_query.proofs.walks.descendants_of.Goals as goal
use Rattle.plain_query.proofs.walks.descendants_of.Goals.{then-has_any+in_ok-add, else-has_any}

pub loop-place-init : goal.loop-place-init
loop-place-init c = led-none (graph_of same_name c.args.world.now) (rows_of c.args.world.now) c.args.set.now c.in_ok-members.members c.in_ok-members.ensures

pub loop-place-preserved : goal.loop-place-preserved
loop-place-preserved c = elim c.if-has_any.branch [
  | then-has_any+in_ok-add w ↦
      led-put same_name same_name-exact same_name-self c.args.world.now c.row_count-place-end.ensures.world c.loop-place.place c.row_at_place-row.result.now
      c.row_at_place-row.ensures c.args.set.now c.loop-place.members c.loop-place.invariant
      (subst (λ (l : List Name). (p : Name) × IsIn p l × IsIn p c.loop-place.members) c.parents.ensures (w.if-has_any.ensures.0 refl))
      w.name.result.now w.name.ensures w.add.new.self w.in_ok-add.ensures c.if-has_any.members w.members-is
  | else-has_any w ↦
      led-left same_name same_name-exact same_name-self c.args.world.now c.row_count-place-end.ensures.world c.loop-place.place c.row_at_place-row.result.now
      c.row_at_place-row.ensures c.args.set.now c.loop-place.members c.loop-place.invariant
      (λ t. true≢false (sym (w.if-has_any.ensures.1 (subst (λ (l : List Name). (p : Name) × IsIn p l × IsIn p c.loop-place.members) (sym c.parents.ensures) t))))
      c.if-has_any.members w.members-is
]

pub returns : goal.returns
returns c =
    led-all same_name same_name-exact same_name-self c.args.world.now c.row_count-place-end.ensures.world c.args.set.now c.loop-place.members c.loop-place.place
    (omega (arith, c.loop-place-test.false, c.row_count-place-end.ensures.count)) c.loop-place.invariant
