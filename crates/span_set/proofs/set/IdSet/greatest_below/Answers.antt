use Rattle.std.proofs.Common.{arith, ◌≡◌, ◌∙◌, ◌-◌, ◌≤◌, ◌<◌, subst, length, ap, take, drop, inl, inr, ℕ, min, ⊎_elim, ◌⊎◌}
use Rattle.span_set.specs.Places.{BeginAbove, BeginWithin}
use Rattle.span_set.proofs.MemberLemmas.{lt_or_le}
use Rattle.span_set.proofs.Below.{greatest-at, none-behind}
use Rattle.span_set.proofs.set.IdSet.greatest_below.Goals as goal

pub returns-then-at-len : goal.returns-then-at-len
returns-then-at-len c =
    let xs = c.self.inside.spans.items in
    let n = c.count_begin_above-at.result in
    let above = subst (λ l. BeginAbove (c.from_number-last.result) (take n l)) c.deref.ensures.value c.count_begin_above-at.ensures.above in
    let le : length xs ≤ n = omega (arith, c.self.inside.spans.ok.0, c.len.ensures, c.if-at-len.true) in
    let last = c.from_number-last.ensures in let number = c.number-number.ensures.number in
    rw (← c.self.view_is) (λ x m lt. none-behind c.from_number-last.result n xs le above x (omega (arith, last, number, lt)) m)

pub returns : goal.returns
returns c =
    let xs = c.self.inside.spans.items in
    let n = c.count_begin_above-at.result in
    let number = c.number-number.ensures.number in let some = c.if-number-eq0.false in
    let last : c.from_number-last.result ≡ c.args.below - 1 = omega (arith, c.from_number-last.ensures, number) in
    let above = subst (λ k. BeginAbove k (take n xs)) last (subst (λ l. BeginAbove (c.from_number-last.result) (take n l)) c.deref.ensures.value c.count_begin_above-at.ensures.above) in
    let rest = subst (λ k. BeginWithin k (drop n xs)) last (subst (λ l. BeginWithin (c.from_number-last.result) (drop n l)) c.deref.ensures.value c.count_begin_above-at.ensures.rest) in
    let within : n ≤ length xs = subst (λ l. n ≤ length l) c.deref.ensures.value c.count_begin_above-at.ensures.within in
    let lt : n < length xs = omega (arith, within, c.self.inside.spans.ok.0, c.len.ensures, c.if-at-len.false) in
    let id = c.from_number.ensures ∙ c.min.ensures in let high = c.number-high.ensures.number in
    rw (← c.self.view_is) (greatest-at c.args.below n c.from_number.result xs c.index.result.now c.self.invariant (omega (arith, number, some)) lt above rest c.index.ensures
    (omega (arith, id, high)) (omega (arith, id, number, some)) (lower _ _ _ _ _ id high (ap (λ k. k - 1) number)))
  where
    lower : (id h n top below : ℕ) → id ≡ min h n → h ≡ top → n ≡ below → (id ≡ top) ⊎ (id ≡ below)
    lower id h n top below e a b = ⊎_elim (λ lt. inl (omega arith)) (λ le. inr (omega arith)) (lt_or_le h n)
