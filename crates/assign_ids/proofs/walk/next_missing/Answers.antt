use Rattle.std.proofs.Common.{sym, ◌∙◌}
use Rattle.assign_ids.proofs.Orders.{met-below, left-placed, left-there, left-missing}
use Rattle.assign_ids.proofs.walk.next_missing.Goals as goal
use Rattle.assign_ids.proofs.walk.next_missing.Goals.{in-Placed, in-Other+else-not-contains}

pub contains-requires : goal.contains-requires
contains-requires c = met-below c.args.order.now.size c.args.parents.now c.parents.i c.in-Other.number c.requires c.parents-test.true c.in-Other.is

pub returns-then-not-contains : goal.returns-then-not-contains
returns-then-not-contains c =
    left-missing c.args.parents.now c.args.done c.args.order.now.numbers c.parents.i c.in-Other.number c.parents-test.true c.in-Other.is (sym c.contains.ensures ∙ c.if-not-contains.true) c.parents.invariant

pub parents-preserved : goal.parents-preserved
parents-preserved c = elim c.match-parents-i.branch [
  | in-Placed w ↦ left-placed c.args.parents.now c.args.done c.args.order.now.numbers c.parents.i c.parents-test.true w.in-Placed.is c.parents.invariant
  | in-Other+else-not-contains w ↦
      left-there c.args.parents.now c.args.done c.args.order.now.numbers c.parents.i w.in-Other.number c.parents-test.true w.in-Other.is (sym w.contains.ensures ∙ w.if-not-contains.false) c.parents.invariant
]
