-- The two parts of a list of spans round the place that a search finds.
use Rattle.std.proofs.Common.{◌≡◌, ℕ, zero, suc, ◌-◌, ap, ◌<◌, ◌≤◌, ◌↔◌, List, [], ◌∷◌, length, get_or, take, drop, arith, true, false, le_of_suc-le-suc, suc-le-suc, zero-le, le_refl}
use Rattle.std.specs.Prelude.{nat_lt, nat_le}
use Rattle.std.specs.List.{AllWithin}
use Rattle.std.specs.List.Sorted.{IsPartitionedBy}
use Rattle.std.proofs.lemmas.List.{get_or_default}
use Rattle.std.proofs.lemmas.Bool.{ltb-true, ltb-false, leb-true, leb-false, lt-ltb, le-leb}
use Rattle.id_groups.specs.declared.span.IdSpan.{IdSpan}
use Rattle.id_groups.specs.Span.{IsSpan}
use Rattle.span_set.specs.Members.{IsBelow, IsCanonical, AreBelow}
use Rattle.span_set.specs.Places.{AreNotAbove, AreNotBelow, BeginAbove, BeginWithin}
use Rattle.span_set.proofs.Order.{span-at, below-at}

-- neither end rises from span to span
lows-fall : (xs : List IdSpan) (i j : ℕ) (d : IdSpan) → IsCanonical xs → i ≤ j → j < length xs → (get_or xs j d).low ≤ (get_or xs i d).low
lows-fall [] i j d c le lt = absurd (omega arith)
lows-fall (x ∷ xs) zero zero d c le lt = le_refl _
lows-fall (x ∷ xs) zero (suc j) d c le lt =
    let less : j < length xs = le_of_suc-le-suc lt in
    let u = (below-at x xs j d c.1 less).under in let o = (span-at xs j d c.2 less).order in omega arith
lows-fall (x ∷ xs) (suc i) zero d c le lt = absurd (omega arith)
lows-fall (x ∷ xs) (suc i) (suc j) d c le lt = lows-fall xs i j d c.2 (le_of_suc-le-suc le) (le_of_suc-le-suc lt)

highs-fall : (xs : List IdSpan) (i j : ℕ) (d : IdSpan) → IsCanonical xs → i ≤ j → j < length xs → (get_or xs j d).high ≤ (get_or xs i d).high
highs-fall [] i j d c le lt = absurd (omega arith)
highs-fall (x ∷ xs) zero zero d c le lt = le_refl _
highs-fall (x ∷ xs) zero (suc j) d c le lt =
    let less : j < length xs = le_of_suc-le-suc lt in
    let u = (below-at x xs j d c.1 less).under in let o = c.0.order in omega arith
highs-fall (x ∷ xs) (suc i) zero d c le lt = absurd (omega arith)
highs-fall (x ∷ xs) (suc i) (suc j) d c le lt = highs-fall xs i j d c.2 (le_of_suc-le-suc le) (le_of_suc-le-suc lt)

pub lows-parted : (n : ℕ) (xs : List IdSpan) → IsCanonical xs → IsPartitionedBy (λ (s : IdSpan). nat_lt n s.low) xs
lows-parted n xs c i j d le lt t = let more = ltb-true _ _ t in let fall = lows-fall xs i j d c le lt in lt-ltb _ _ (omega arith)

pub highs-parted : (n : ℕ) (xs : List IdSpan) → IsCanonical xs → IsPartitionedBy (λ (s : IdSpan). nat_le n s.high) xs
highs-parted n xs c i j d le lt t = let more = leb-true _ _ t in let fall = highs-fall xs i j d c le lt in le-leb _ _ (omega arith)

pub begin-above-point : (id n : ℕ) (xs : List IdSpan) → AllWithin (λ (s : IdSpan). nat_lt id s.low ≡ true) xs 0 n → BeginAbove id (take n xs)
begin-above-point id zero xs h = tt
begin-above-point id (suc n) [] h = tt
begin-above-point id (suc n) (s ∷ xs) h =
    (ltb-true _ _ (h 0 s zero-le (omega arith)), begin-above-point id n xs (λ k d a b. h (suc k) d zero-le (suc-le-suc b)))

pub none-begins-above : (id n : ℕ) (xs : List IdSpan) → length xs ≡ 0 → BeginAbove id (take n xs)
none-begins-above id zero xs e = tt
none-begins-above id (suc n) [] e = tt
none-begins-above id (suc n) (s ∷ xs) e = absurd (omega (arith, e))

-- where the lowest begins above the id all do
pub all-begin-above : (id : ℕ) (xs : List IdSpan) (d : IdSpan) → IsCanonical xs → 0 < length xs → id < (get_or xs (length xs - 1) d).low → BeginAbove id (take (length xs) xs)
all-begin-above id xs d c some lt =
    begin-above-point id (length xs) xs (λ k e from to.
    let fall = lows-fall xs k (length xs - 1) e c (omega (arith, to)) (omega (arith, some)) in
    let same = ap (λ (s : IdSpan). s.low) (get_or_default xs (length xs - 1) d e (omega (arith, some))) in
    lt-ltb id (get_or xs k e).low (omega (arith, lt, same, fall)))

pub begin-within-point : (id n : ℕ) (xs : List IdSpan) → AllWithin (λ (s : IdSpan). nat_lt id s.low ≡ false) xs n (length xs) → BeginWithin id (drop n xs)
begin-within-point id zero [] h = tt
begin-within-point id zero (s ∷ xs) h =
    (ltb-false _ _ (h 0 s zero-le (omega arith)), begin-within-point id zero xs (λ k d a b. h (suc k) d zero-le (suc-le-suc b)))
begin-within-point id (suc n) [] h = tt
begin-within-point id (suc n) (s ∷ xs) h = begin-within-point id n xs (λ k d a b. h (suc k) d (suc-le-suc a) (suc-le-suc b))

-- spans that end below the gap are those that lie below t
module _ (t : IdSpan) (gap : ℕ) (is : (u : IdSpan) → (u.high < gap) ↔ IsBelow u t) where
  pub not-below-point : (n : ℕ) (xs : List IdSpan) → AllWithin (λ (s : IdSpan). nat_le gap s.high ≡ true) xs 0 n → AreNotBelow t (take n xs)
  not-below-point zero xs h = tt
  not-below-point (suc n) [] h = tt
  not-below-point (suc n) (s ∷ xs) h = (
    λ b. let lt = (is s).1 b in let le = leb-true _ _ (h 0 s zero-le (omega arith)) in absurd (omega arith),
    not-below-point n xs (λ k d a b. h (suc k) d zero-le (suc-le-suc b)),
  )

  pub below-point : (n : ℕ) (xs : List IdSpan) → AllWithin (λ (s : IdSpan). nat_le gap s.high ≡ false) xs n (length xs) → AreBelow t (drop n xs)
  below-point zero [] h = tt
  below-point zero (s ∷ xs) h =
      ((is s).0 (leb-false _ _ (h 0 s zero-le (omega arith))), below-point zero xs (λ k d a b. h (suc k) d zero-le (suc-le-suc b)))
  below-point (suc n) [] h = tt
  below-point (suc n) (s ∷ xs) h = below-point n xs (λ k d a b. h (suc k) d (suc-le-suc a) (suc-le-suc b))

-- what lies below t isn't above it
pub not-above-below : (t : IdSpan) (xs : List IdSpan) → IsSpan t → IsCanonical xs → AreBelow t xs → AreNotAbove t xs
not-above-below t [] st c b = tt
not-above-below t (s ∷ xs) st c b =
    (λ a. let u = b.0.under in let v = a.under in let o = st.order in let p = c.0.order in absurd (omega arith), not-above-below t xs st c.2 b.1)
