use Rattle.std.proofs.Common.{arith, ◌+◌, ◌∙◌, le_refl}
use Rattle.std.proofs.Math.ListN.{get_or}
use Rattle.assign_ids.proofs.Orders.{above-next, above-end, greater-is}
use Rattle.assign_ids.proofs.walk.size_above.Goals as goal

pub heads-preserved : goal.heads-preserved
heads-preserved c =
    let e = c.max-size.ensures ∙ greater-is c.heads.size (get_or c.args.heads.now c.heads.head-index 0 + 1) in
    let fits = c.type_inv.heads c.heads.head-index in let small = c.heads.invariant.small in record {
      rest = above-next c.args.heads.now c.heads.size c.max-size.result c.heads.head-index c.heads-test.true e c.heads.invariant.rest;
      small = omega (arith, e, fits, small);
    }

pub returns-clause-above : goal.returns-clause-above
returns-clause-above c = (above-end c.args.heads.now c.heads.size c.heads.head-index c.heads-test.false c.heads.invariant.rest c.heads.size).1 (le_refl c.heads.size)

pub returns-clause-least : goal.returns-clause-least
returns-clause-least c = λ n below. (above-end c.args.heads.now c.heads.size c.heads.head-index c.heads-test.false c.heads.invariant.rest n).0 below
