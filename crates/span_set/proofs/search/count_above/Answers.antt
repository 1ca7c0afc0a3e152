use Rattle.std.proofs.Common.{arith, ◌-◌, subst, sym, le_refl}
use Rattle.span_set.specs.Members.{IsBelow}
use Rattle.span_set.proofs.Order.{above-step, not-above-rest}
use Rattle.span_set.proofs.Below.{canonical-drop}
use Rattle.span_set.proofs.Points.{not-above-below}
use Rattle.span_set.proofs.search.count_above.Goals as goal

pub joined-init : goal.joined-init
joined-init c = record { within = le_refl _; not_above = not-above-below _ _ c.requires.span (canonical-drop c.args.to _ c.requires.canonical) c.requires.below }

pub joined-preserved : goal.joined-preserved
joined-preserved c =
    let touches = c.if-gap_below-number.true in let same = c.number.ensures.number in
    let in_bounds = c.joined.invariant.within in let some = c.joined-test.true in
    record {
      within = omega arith;
      not_above = not-above-rest c.args.span.now c.args.spans.now (c.joined.from - 1) c.index-spans-from.result c.requires.canonical (omega (arith, c.requires.within))
          (λ b. let lt = (c.gap_below.ensures c.args.span.now).1 (subst (λ s. IsBelow c.args.span.now s) (sym c.index-spans-from.is) b) in omega arith);
    }

pub returns-else-gap_below-number-clause-above : goal.returns-else-gap_below-number-clause-above
returns-else-gap_below-number-clause-above c =
    let apart = c.if-gap_below-number.false in let same = c.number.ensures.number in
    let some = c.joined-test.true in let in_bounds = c.joined.invariant.within in
    above-step c.args.span.now c.args.spans.now (c.joined.from - 1) c.joined.from c.index-spans-from.result (omega arith) c.requires.canonical (omega (arith, c.requires.within))
    (subst (λ s. IsBelow c.args.span.now s) c.index-spans-from.is ((c.gap_below.ensures c.args.span.now).0 (omega arith)))
