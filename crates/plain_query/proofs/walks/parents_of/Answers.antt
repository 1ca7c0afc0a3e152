use Rattle.std.proofs.Common.{arith, refl, sym, true≢false}
use Rattle.id_groups.specs.Name.{same_name}
use Rattle.id_groups.proofs.Names.{same_name-exact, same_name-self}
use Rattle.plain_query.proofs.Gathering.{parents-put, parents-left, parents-all}
use Rattle.plain_query.proofs.walks.parents_of.Goals as goal
use Rattle.plain_query.proofs.walks.parents_of.Goals.{then-has+in_ok-add_all, else-has}

pub loop-place-preserved : goal.loop-place-preserved
loop-place-preserved c = elim c.if-has.branch [
  | then-has+in_ok-add_all w ↦
      parents-put same_name same_name-exact same_name-self c.args.world.now c.row_count-place-end.ensures.world c.loop-place.place c.row_at_place-row.result.now
      c.row_at_place-row.ensures c.args.set.now c.loop-place.members c.loop-place.invariant c.name.result.now c.name.ensures (w.if-has.ensures.0 refl)
      w.parents.result.now w.parents.ensures w.add_all.new.self w.in_ok-add_all.ensures c.if-has.members w.members-is
  | else-has w ↦
      parents-left same_name same_name-exact same_name-self c.args.world.now c.row_count-place-end.ensures.world c.loop-place.place c.row_at_place-row.result.now
      c.row_at_place-row.ensures c.args.set.now c.loop-place.members c.loop-place.invariant c.name.result.now c.name.ensures
      (λ s. true≢false (sym (w.if-has.ensures.1 s))) c.if-has.members w.members-is
]

pub returns : goal.returns
returns c =
    parents-all same_name same_name-exact same_name-self c.args.world.now c.row_count-place-end.ensures.world c.loop-place.place
    (omega (arith, c.loop-place-test.false, c.row_count-place-end.ensures.count)) c.args.set.now c.loop-place.members c.loop-place.invariant
