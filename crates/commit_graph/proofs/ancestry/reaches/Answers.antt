use Rattle.std.proofs.Common.{arith, refl, sym, true≢false}
use Rattle.id_groups.specs.Name.{same_name}
use Rattle.id_groups.proofs.Names.{same_name-exact, same_name-self}
use Rattle.commit_graph.proofs.Leading.{leading-push, leading-keep, leading-answer}
use Rattle.commit_graph.proofs.ancestry.reaches.Goals as goal
use Rattle.commit_graph.proofs.ancestry.reaches.Goals.{then-leads+in_ok-push, else-leads}

pub loop-place-preserved : goal.loop-place-preserved
loop-place-preserved c = elim c.if-leads.branch [
  | then-leads+in_ok-push w ↦
      leading-push same_name same_name-exact same_name-self c.args.world.now c.is_world.ensures.world c.loop-place.place c.nth-row.result.now c.nth-row.ensures
      c.name.result.now c.loop-place.leading.items c.loop-place.invariant c.as_slice.result.now c.as_slice.ensures.value (w.if-leads.ensures.0 refl)
      w.name-then-leads.result.now w.name-then-leads.ensures c.if-leads.leading.items (cc (w.leading-is, w.in_ok-push.ensures.items))
  | else-leads w ↦
      leading-keep same_name same_name-exact same_name-self c.args.world.now c.is_world.ensures.world c.loop-place.place c.nth-row.result.now c.nth-row.ensures
      c.name.result.now c.loop-place.leading.items c.loop-place.invariant c.as_slice.result.now c.as_slice.ensures.value
      (λ s. true≢false (sym (w.if-leads.ensures.1 s))) c.if-leads.leading.items (cc (w.leading-is))
]

pub returns : goal.returns
returns c = λ from to e f.
    leading-answer same_name same_name-exact same_name-self c.args.world.now c.is_world.ensures.world c.loop-place.place
    (omega (arith, c.loop-place-test.false, c.len-place-end.ensures))
    c.name.result.now c.loop-place.leading.items c.loop-place.invariant c.args.x c.args.y from to c.row-2.result.now c.row.result.now e f
    c.row-2.ensures c.row.ensures c.name.ensures c.name-2.result.now c.name-2.ensures c.as_slice-2.result.now c.as_slice-2.ensures.value
    c.has.result c.has.ensures
