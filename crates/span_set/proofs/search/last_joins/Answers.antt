use Rattle.std.proofs.Common.{arith, ◌≡◌, ◌-◌, length, Bool, true, false, true≢false, sym, refl}
use Rattle.std.proofs.Math.Bool.{not}
use Rattle.std.proofs.lemmas.Bool.{eqb-false}
use Rattle.span_set.proofs.LastSpan.{right-above}
use Rattle.span_set.proofs.search.last_joins.Goals as goal

not-true : (b : Bool) → not b ≡ true → b ≡ false
not-true true e = absurd (true≢false (sym e))
not-true false e = refl

pub returns-then-low-number : goal.returns-then-low-number
returns-then-low-number c = λ other.
    let xs = c.args.spans.now in
    let some = c.if-len-eq0.false in
    let apart = eqb-false _ _ (not-true _ other) in
    let low = c.number-low.ensures.number in
    right-above c.args.span.now xs (length xs - 1) c.index-spans-len.result (omega arith) (omega (arith, low, c.if-low-number.true, c.number.ensures.number)) (λ e. apart (omega (arith, low, e)))
