-- Searches by the lowest id of each span.
use Rattle.std.proofs.Common.{◌≡◌, ℕ, zero, suc, ◌-◌, ◌<◌, ◌≤◌, ◌⊎◌, inl, inr, List, [], ◌∷◌, length, get_or, take, drop, sym, subst, arith, ⊎_elim, le_of_suc-le-suc, ap, ◌∙◌, add-zero, le_refl}
use Rattle.std.proofs.lemmas.List.{take-append-drop, get_or-drop, length-drop}
use Rattle.id_groups.specs.declared.span.IdSpan.{IdSpan}
use Rattle.id_groups.specs.Span.{IsInSpan}
use Rattle.span_set.specs.Members.{IsMember, IsCanonical}
use Rattle.span_set.specs.Places.{BeginAbove, BeginWithin}
use Rattle.span_set.proofs.Order.{span-at, below-at}
use Rattle.span_set.proofs.MemberLemmas.{member-either, member-at, member-first, canonical-right}

begin-above-front : (id : ℕ) (xs : List IdSpan) (m : ℕ) (d : IdSpan) → IsCanonical xs → m < length xs → id < (get_or xs m d).low → BeginAbove id (take (suc m) xs)
begin-above-front id [] m d c lt h = tt
begin-above-front id (x ∷ xs) zero d c lt h = (h, tt)
begin-above-front id (x ∷ xs) (suc m) d c lt h =
    let less : m < length xs = le_of_suc-le-suc lt in
    let u = (below-at x xs m d c.1 less).under in let o = (span-at xs m d c.2 less).order in
    (omega arith, begin-above-front id xs m d c.2 less h)

pub begin-above-step : (id : ℕ) (xs : List IdSpan) (m n : ℕ) (d : IdSpan) → n ≡ suc m → IsCanonical xs → m < length xs → id < (get_or xs m d).low → BeginAbove id (take n xs)
begin-above-step id xs m n d e c lt h = subst (λ k. BeginAbove id (take k xs)) (sym e) (begin-above-front id xs m d c lt h)

not-above : (id x : ℕ) (xs : List IdSpan) → BeginAbove id xs → x ≤ id → IsMember xs x → ⊥
not-above id x [] h le m = absurd m
not-above id x (s ∷ xs) h le (inl i) = let a = h.0 in let b = i.0 in absurd (omega arith)
not-above id x (s ∷ xs) h le (inr m) = not-above id x xs h.1 le m

-- a member that is at most the id stands behind the place
behind-place : (id n : ℕ) (xs : List IdSpan) → BeginAbove id (take n xs) → (x : ℕ) → x ≤ id → IsMember xs x → IsMember (drop n xs) x
behind-place id n xs above x le m =
    ⊎_elim (λ a. absurd (not-above id x (take n xs) above le a)) (λ b. b)
    (member-either (take n xs) (drop n xs) x (subst (λ l. IsMember l x) (sym (take-append-drop n xs)) m))

pub canonical-drop : (n : ℕ) (xs : List IdSpan) → IsCanonical xs → IsCanonical (drop n xs)
canonical-drop n xs c = canonical-right (take n xs) (drop n xs) (subst IsCanonical (sym (take-append-drop n xs)) c)

pub below-place : (id n : ℕ) (xs : List IdSpan) (d : IdSpan) → IsCanonical xs → BeginAbove id (take n xs) → (x : ℕ) → x ≤ id → IsMember xs x → x ≤ (get_or xs n d).high
below-place id n xs d c above x le m =
    let e = get_or-drop n xs 0 d in
    let h = member-first (drop n xs) d x (canonical-drop n xs c) (behind-place id n xs above x le m) in
    subst (λ (s : IdSpan). x ≤ s.high) (e ∙ ap (λ k. get_or xs k d) (add-zero n)) h

pub none-behind : (id n : ℕ) (xs : List IdSpan) → length xs ≤ n → BeginAbove id (take n xs) → (x : ℕ) → x ≤ id → IsMember xs x → ⊥
none-behind id n xs le above x lx m = nothing (drop n xs) (omega (arith, length-drop n xs)) (behind-place id n xs above x lx m)
  where
    nothing : (ys : List IdSpan) → length ys ≡ 0 → IsMember ys x → ⊥
    nothing [] e m = absurd m
    nothing (y ∷ ys) e m = absurd (omega arith)

pub low-at : (id n : ℕ) (xs : List IdSpan) (d : IdSpan) → n < length xs → BeginWithin id (drop n xs) → (get_or xs n d).low ≤ id
low-at id n [] d lt h = absurd (omega arith)
low-at id zero (x ∷ xs) d lt h = h.0
low-at id (suc n) (x ∷ xs) d lt h = low-at id n xs d (le_of_suc-le-suc lt) h

pub contains-at : (id n : ℕ) (xs : List IdSpan) (r : IdSpan) → IsCanonical xs → n < length xs → BeginAbove id (take n xs) → BeginWithin id (drop n xs) → r ≡ get_or xs n r
    → (id ≤ r.high → IsMember xs id) × (IsMember xs id → id ≤ r.high)
contains-at id n xs r c lt above within e = (
  λ le. member-at xs n r id lt (subst (λ (s : IdSpan). IsInSpan id s) e (subst (λ (s : IdSpan). s.low ≤ id) (sym e) (low-at id n xs r lt within), le)),
  λ m. subst (λ (s : IdSpan). id ≤ s.high) (sym e) (below-place id n xs r c above id (le_refl id) m),
)

-- id is the lower of the span's highest and what is just below the bound
pub greatest-at : (below n id : ℕ) (xs : List IdSpan) (r : IdSpan) → IsCanonical xs → 0 < below → n < length xs → BeginAbove (below - 1) (take n xs) → BeginWithin (below - 1) (drop n xs) → r ≡ get_or xs n r
    → id ≤ r.high → id < below → (id ≡ r.high) ⊎ (id ≡ below - 1)
    → IsMember xs id × (id < below) × ((x : ℕ) → IsMember xs x → x < below → x ≤ id)
greatest-at below n id xs r c pos lt above within e le lb is =
    let low : r.low ≤ below - 1 = subst (λ (s : IdSpan). s.low ≤ below - 1) (sym e) (low-at (below - 1) n xs r lt within) in
    let order : r.low ≤ r.high = subst (λ (s : IdSpan). s.low ≤ s.high) (sym e) (span-at xs n r c lt).order in (
      member-at xs n r id lt (subst (λ (s : IdSpan). IsInSpan id s) e (⊎_elim (λ q. omega arith) (λ q. omega arith) is, le)),
      lb,
      λ x m lx. let top : x ≤ r.high = subst (λ (s : IdSpan). x ≤ s.high) (sym e) (below-place (below - 1) n xs r c above x (omega arith) m) in ⊎_elim (λ q. omega arith) (λ q. omega arith) is,
    )
