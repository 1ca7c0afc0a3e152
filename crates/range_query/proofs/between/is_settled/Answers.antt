use Rattle.std.proofs.Common.{arith, ◌-◌, get_or}
use Rattle.range_query.specs.declared.cut.Cut.{Cut}
use Rattle.range_query.proofs.RangeLemmas.{cut-at}
use Rattle.range_query.proofs.between.is_settled.Goals as goal

pub returns-then-is_passed : goal.returns-then-is_passed
returns-then-is_passed c = λ t.
    let some = c.if-left-eq0.false in
    let d : Cut = record { at = 0; least = 0 } in
    let h = c.is_passed.ensures.0 c.if-is_passed.true in
    (get_or c.args.cuts.now (c.args.left - 1) d, cut-at c.args.cuts.now (c.args.left - 1) d (omega (arith, c.requires)), h.0, h.1, h.2, c.ends_below.ensures.0 t)
