-- A canonical list is known by its members.
use Rattle.std.proofs.Common.{◌≡◌, ℕ, ◌+◌, ◌-◌, ◌<◌, ◌≤◌, ◌^◌, inl, inr, ⊎_elim, List, [], ◌∷◌, refl, sym, arith, le_refl, ap₂}
use Rattle.id_groups.specs.declared.span.IdSpan.{IdSpan}
use Rattle.span_set.specs.Members.{IsMember, IsCanonical, AreBelow}
use Rattle.span_set.proofs.MemberLemmas.{lt_or_le, member-high, member-first}

-- a member just below a span stands across the groups' boundary
member-apart : (s : IdSpan) (xs : List IdSpan) (z : ℕ) → IsCanonical xs → AreBelow s xs → IsMember xs z → z + 1 ≡ s.low → s.low ≡ 2 ^ 56
member-apart s [] z c b m e = absurd m
member-apart s (t ∷ xs) z c b (inl i) e = let u = b.0.under in let h = i.1 in b.0.apart (omega arith)
member-apart s (t ∷ xs) z c b (inr m) e = member-apart s xs z c.2 b.1 m e

first-low : (x y : IdSpan) (xs ys : List IdSpan) → IsCanonical (x ∷ xs) → IsCanonical (y ∷ ys) → x.high ≡ y.high
    → ((z : ℕ) → IsMember (x ∷ xs) z → IsMember (y ∷ ys) z) → y.low ≤ x.low
first-low x y xs ys cx cy same to = ⊎_elim
    (λ (less : x.low < y.low).
    let oy = cy.0.order in
    absurd (⊎_elim
    (λ i. let low = i.0 in omega arith)
    (λ m. let edge = member-apart y ys (y.low - 1) cy.2 cy.1 m (omega arith) in
    let high = cx.0.group (omega arith) in omega arith)
    (to (y.low - 1) (inl (omega arith, omega arith)))))
    (λ le. le) (lt_or_le x.low y.low)

rest-members : (x y : IdSpan) (xs ys : List IdSpan) → IsCanonical (x ∷ xs) → x.low ≡ y.low
    → ((z : ℕ) → IsMember (x ∷ xs) z → IsMember (y ∷ ys) z) → (z : ℕ) → IsMember xs z → IsMember ys z
rest-members x y xs ys cx same to z m =
    ⊎_elim (λ i. let low = i.0 in let high = member-high x xs z cx.2 cx.1 m in absurd (omega arith)) (λ r. r) (to z (inr m))

pub one-form : (a b : List IdSpan) → IsCanonical a → IsCanonical b → ((z : ℕ) → IsMember a z → IsMember b z) → ((z : ℕ) → IsMember b z → IsMember a z) → a ≡ b
one-form [] [] ca cb to back = refl
one-form [] (y ∷ ys) ca cb to back = absurd (back y.high (inl (cb.0.order, le_refl _)))
one-form (x ∷ xs) [] ca cb to back = absurd (to x.high (inl (ca.0.order, le_refl _)))
one-form (x ∷ xs) (y ∷ ys) ca cb to back =
    let up = member-first (y ∷ ys) y x.high cb (to x.high (inl (ca.0.order, le_refl _))) in
    let down = member-first (x ∷ xs) x y.high ca (back y.high (inl (cb.0.order, le_refl _))) in
    let high : x.high ≡ y.high = omega arith in
    let left = first-low x y xs ys ca cb high to in
    let right = first-low y x ys xs cb ca (sym high) back in
    let low : x.low ≡ y.low = omega arith in
    ap₂ {C = List IdSpan} (λ s l. s ∷ l)
    (ap₂ {C = IdSpan} (λ l h. record { low = l; high = h }) low high)
    (one-form xs ys ca.2 cb.2 (rest-members x y xs ys ca low to) (rest-members y x ys xs cb (sym low) back))
