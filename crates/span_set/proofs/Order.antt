-- Spans before and behind a place in a canonical list.
use Rattle.std.proofs.Common.{◌≡◌, ℕ, zero, suc, ◌<◌, List, [], ◌∷◌, length, get_or, take, drop, sym, subst, arith, Bool, true, false, IsTrue, ◌↔◌, ◌∙◌, true≢false, le_of_suc-le-suc}
use Rattle.id_groups.specs.declared.span.IdSpan.{IdSpan}
use Rattle.id_groups.specs.Span.{IsSpan}
use Rattle.span_set.specs.Members.{IsBelow, IsCanonical, AreBelow}
use Rattle.span_set.specs.Places.{AreAbove, AreNotAbove, AreNotBelow}

pub below-trans : (t u s : IdSpan) → IsSpan u → IsBelow t u → IsBelow u s → IsBelow t s
below-trans t u s h a b = let o = h.order in let x = a.under in let y = b.under in record { under = omega arith; apart = λ e. absurd (omega arith) }

pub below-at : (s : IdSpan) (xs : List IdSpan) (m : ℕ) (d : IdSpan) → AreBelow s xs → m < length xs → IsBelow (get_or xs m d) s
below-at s [] m d h lt = absurd (omega arith)
below-at s (x ∷ xs) zero d h lt = h.0
below-at s (x ∷ xs) (suc m) d h lt = below-at s xs m d h.1 (le_of_suc-le-suc lt)

pub span-at : (xs : List IdSpan) (m : ℕ) (d : IdSpan) → IsCanonical xs → m < length xs → IsSpan (get_or xs m d)
span-at [] m d h lt = absurd (omega arith)
span-at (x ∷ xs) zero d h lt = h.0
span-at (x ∷ xs) (suc m) d h lt = span-at xs m d h.2 (le_of_suc-le-suc lt)

-- what lies below the span at m lies below all before
pub above-front : (t : IdSpan) (xs : List IdSpan) (m : ℕ) (d : IdSpan) → IsCanonical xs → m < length xs → IsBelow t (get_or xs m d) → AreAbove t (take (suc m) xs)
above-front t [] m d h lt b = tt
above-front t (x ∷ xs) zero d h lt b = (b, tt)
above-front t (x ∷ xs) (suc m) d h lt b =
    let less : m < length xs = le_of_suc-le-suc lt in
    (below-trans t (get_or xs m d) x (span-at xs m d h.2 less) b (below-at x xs m d h.1 less), above-front t xs m d h.2 less b)

not-above-all : (t s : IdSpan) (xs : List IdSpan) → IsCanonical xs → AreBelow s xs → (IsBelow t s → ⊥) → AreNotAbove t xs
not-above-all t s [] c h n = tt
not-above-all t s (x ∷ xs) c h n = (λ b. n (below-trans t x s c.0 b h.0), not-above-all t s xs c.2 h.1 n)

pub not-above-rest : (t : IdSpan) (xs : List IdSpan) (m : ℕ) (d : IdSpan) → IsCanonical xs → m < length xs → (IsBelow t (get_or xs m d) → ⊥) → AreNotAbove t (drop m xs)
not-above-rest t [] m d h lt n = absurd (omega arith)
not-above-rest t (x ∷ xs) zero d h lt n = (n, not-above-all t x xs h.2 h.1 n)
not-above-rest t (x ∷ xs) (suc m) d h lt n = not-above-rest t xs m d h.2 (le_of_suc-le-suc lt) n

below-all : (s u : IdSpan) (xs : List IdSpan) → IsSpan u → AreBelow u xs → IsBelow u s → AreBelow s xs
below-all s u [] c h b = tt
below-all s u (x ∷ xs) c h b = (below-trans x u s c h.0 b, below-all s u xs c h.1 b)

pub not-below-front : (s : IdSpan) (xs : List IdSpan) (m : ℕ) (d : IdSpan) → IsCanonical xs → m < length xs → (IsBelow (get_or xs m d) s → ⊥) → AreNotBelow s (take (suc m) xs)
not-below-front s [] m d h lt n = tt
not-below-front s (x ∷ xs) zero d h lt n = (n, tt)
not-below-front s (x ∷ xs) (suc m) d h lt n =
    let less : m < length xs = le_of_suc-le-suc lt in
    (λ b. n (below-trans (get_or xs m d) x s h.0 (below-at x xs m d h.1 less) b), not-below-front s xs m d h.2 less n)

-- the same at the places of a halving
pub above-step : (t : IdSpan) (xs : List IdSpan) (m n : ℕ) (d : IdSpan) → n ≡ suc m → IsCanonical xs → m < length xs → IsBelow t (get_or xs m d) → AreAbove t (take n xs)
above-step t xs m n d e h lt b = subst (λ k. AreAbove t (take k xs)) (sym e) (above-front t xs m d h lt b)

pub not-below-step : (s : IdSpan) (xs : List IdSpan) (m n : ℕ) (d : IdSpan) → n ≡ suc m → IsCanonical xs → m < length xs → (IsBelow (get_or xs m d) s → ⊥) → AreNotBelow s (take n xs)
not-below-step s xs m n d e h lt b = subst (λ k. AreNotBelow s (take k xs)) (sym e) (not-below-front s xs m d h lt b)

pub none-above : (t : IdSpan) (xs : List IdSpan) (n : ℕ) → n ≡ 0 → AreAbove t (take n xs)
none-above t xs n e = subst (λ k. AreAbove t (take k xs)) (sym e) tt

pub none-not-below : (s : IdSpan) (xs : List IdSpan) (n : ℕ) → n ≡ 0 → AreNotBelow s (take n xs)
none-not-below s xs n e = subst (λ k. AreNotBelow s (take k xs)) (sym e) tt

-- what a test says
pub told : (b : Bool) (P : Type 0) → (IsTrue b ↔ P) → b ≡ true → P
told b P h e = h.0 e

pub not-told : (b : Bool) (P : Type 0) → (IsTrue b ↔ P) → b ≡ false → P → ⊥
not-told b P h e p = true≢false (sym (h.1 p) ∙ e)
