use Rattle.std.proofs.Common.{arith, ◌+◌, ◌<◌, ◌-◌, length, ap, subst}
use Rattle.std.proofs.Math.Seq.{take-length}
use Rattle.std.proofs.lemmas.Bool.{ltb-true}
use Rattle.id_groups.specs.declared.span.IdSpan.{IdSpan}
use Rattle.span_set.specs.Members.{IsBelow}
use Rattle.span_set.specs.Places.{AreAbove}
use Rattle.span_set.proofs.Order.{above-step}
use Rattle.span_set.proofs.search.are_all_above.Goals as goal

pub returns-else-len-eq0 : goal.returns-else-len-eq0
returns-else-len-eq0 c = λ apart.
    let xs = c.args.spans.now in
    let some = c.if-len-eq0.false in
    let high = c.number.ensures.number in
    let low = c.number-else-len-eq0.ensures.number in
    let lt : c.number.result + 1 < c.number-else-len-eq0.result = ltb-true _ _ apart in
    let same = ap (λ (s : IdSpan). s.low) c.index-spans-len.is in
    let below : IsBelow c.args.span.now c.index-spans-len.result =
    record { under = omega (arith, lt, high, low, same); apart = λ e. absurd (omega (arith, lt, high, low, same, e)) } in
    subst (AreAbove c.args.span.now) (take-length xs)
    (above-step c.args.span.now xs (length xs - 1) (length xs) c.index-spans-len.result (omega arith) c.requires (omega arith) (subst (λ s. IsBelow c.args.span.now s) c.index-spans-len.is below))
