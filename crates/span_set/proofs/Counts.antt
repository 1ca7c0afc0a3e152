-- How many ids the spans of a list have, and which they are.
use Rattle.std.proofs.Common.{◌≡◌, ℕ, zero, suc, ◌+◌, ◌-◌, ◌<◌, ◌≤◌, ◌^◌, ◌⊎◌, inl, inr, ⊎_elim, List, [], ◌∷◌, ◌++◌, length, get_or, take, drop, refl, sym, subst, arith, Bool, true, false, true≢false, le_of_suc-le-suc, zero-le, le_refl, ap, ◌∙◌, add_assoc}
use Rattle.std.proofs.lemmas.List.{length-append, append_assoc, take_all}
use Rattle.std.specs.Prelude.{◌==◌}
use Rattle.std.proofs.lemmas.Bool.{le-leb, leb-true}
use Rattle.id_groups.specs.declared.span.IdSpan.{IdSpan}
use Rattle.id_groups.specs.Lists.{IsIn}
use Rattle.id_groups.proofs.Listing.{and_true, both_true}
use Rattle.span_set.specs.Members.{IsCanonical, IsMember, AreBelow, AreUnder, IsDescending, width, descending_from, ids_of, are_filled}
use Rattle.span_set.proofs.Order.{span-at}
use Rattle.span_set.proofs.MemberLemmas.{lt_or_le}

-- how many ids all spans have
abbrev pub count_of : List IdSpan → ℕ
count_of [] = 0
count_of (s ∷ rest) = width s + count_of rest

-- the ids of the spans below one are fewer than its lowest
widths-below : (s : IdSpan) (xs : List IdSpan) → IsCanonical xs → AreBelow s xs → count_of xs ≤ s.low
widths-below s [] c h = zero-le
widths-below s (x ∷ xs) c h = let rest = widths-below x xs c.2 c.1 in let u = h.0.under in let o = c.0.order in omega arith

pub widths-bound : (xs : List IdSpan) → IsCanonical xs → count_of xs ≤ 2 ^ 57
widths-bound [] c = zero-le
widths-bound (x ∷ xs) c = let rest = widths-below x xs c.2 c.1 in let o = c.0.order in let b = c.0.bound in omega arith

-- one more span
pub widths-more : (xs : List IdSpan) (i : ℕ) (d : IdSpan) → i < length xs → count_of (take (suc i) xs) ≡ count_of (take i xs) + width (get_or xs i d)
widths-more [] i d lt = absurd (omega arith)
widths-more (x ∷ xs) zero d lt = omega arith
widths-more (x ∷ xs) (suc i) d lt = let e = widths-more xs i d (le_of_suc-le-suc lt) in ap (λ n. width x + n) e ∙ sym (add_assoc (width x) (count_of (take i xs)) (width (get_or xs i d)))

pub count-le : (xs : List IdSpan) (i : ℕ) → count_of (take i xs) ≤ count_of xs
count-le xs zero = zero-le
count-le [] (suc i) = zero-le
count-le (x ∷ xs) (suc i) = let h = count-le xs i in omega arith

-- the sum goes on, and stays in bounds
pub record CountGoesOn (xs : List IdSpan) (i total : ℕ) (s : IdSpan) : Type 0 where
  pub order : s.low ≤ s.high
  pub bound : s.high < 2 ^ 57
  pub fits : total + (s.high - s.low + 1) ≤ 2 ^ 57
  pub next : total + (s.high - s.low + 1) ≡ count_of (take (i + 1) xs)

pub count-goes-on : (xs : List IdSpan) (i total : ℕ) (d : IdSpan) → IsCanonical xs → i < length xs → total ≡ count_of (take i xs) → CountGoesOn xs i total (get_or xs i d)
count-goes-on xs i total d c lt e =
    let s = span-at xs i d c lt in let o = s.order in
    let more = widths-more xs i d lt in
    let same : i + 1 ≡ suc i = omega arith in
    let sum : total + ((get_or xs i d).high - (get_or xs i d).low + 1) ≡ count_of (take (suc i) xs) = omega arith in
    let le = count-le xs (suc i) in let all = widths-bound xs c in
    record { order = o; bound = s.bound; fits = omega arith; next = sum ∙ ap (λ k. count_of (take k xs)) (sym same) }

-- the ids of a list, counted and found
pub length-descending : (low n : ℕ) → length (descending_from low n) ≡ n
length-descending low zero = refl
length-descending low (suc n) = let e = length-descending low n in omega arith

pub length-ids : (xs : List IdSpan) → length (ids_of xs) ≡ count_of xs
length-ids [] = refl
length-ids (s ∷ xs) =
    let e = length-ids xs in let f = length-descending s.low (width s) in
    let g = length-append (descending_from s.low (width s)) (ids_of xs) in omega arith

pub ids-append : (xs ys : List IdSpan) → ids_of (xs ++ ys) ≡ ids_of xs ++ ids_of ys
ids-append [] ys = refl
ids-append (s ∷ xs) ys =
    ap (λ l. descending_from s.low (width s) ++ l) (ids-append xs ys) ∙ sym (append_assoc (descending_from s.low (width s)) (ids_of xs) (ids_of ys))

in-front : (x : ℕ) (xs ys : List ℕ) → IsIn x xs → IsIn x (xs ++ ys)
in-front x [] ys h = absurd h
in-front x (z ∷ xs) ys (inl e) = inl e
in-front x (z ∷ xs) ys (inr h) = inr (in-front x xs ys h)

in-back : (x : ℕ) (xs ys : List ℕ) → IsIn x ys → IsIn x (xs ++ ys)
in-back x [] ys h = h
in-back x (z ∷ xs) ys h = inr (in-back x xs ys h)

in-either : (x : ℕ) (xs ys : List ℕ) → IsIn x (xs ++ ys) → IsIn x xs ⊎ IsIn x ys
in-either x [] ys h = inr h
in-either x (z ∷ xs) ys (inl e) = inl (inl e)
in-either x (z ∷ xs) ys (inr h) = ⊎_elim (λ a. inl (inr a)) (λ b. inr b) (in-either x xs ys h)

descending-in : (low n x : ℕ) → IsIn x (descending_from low n) → (low ≤ x) × (x < low + n)
descending-in low zero x h = absurd h
descending-in low (suc n) x (inl e) = (omega arith, omega arith)
descending-in low (suc n) x (inr h) = let p = descending-in low n x h in let b = p.1 in (p.0, omega arith)

in-descending : (low n x : ℕ) → low ≤ x → x < low + n → IsIn x (descending_from low n)
in-descending low zero x le lt = absurd (omega arith)
in-descending low (suc n) x le lt = ⊎_elim (λ less. inr (in-descending low n x le less)) (λ more. inl (omega arith)) (lt_or_le x (low + n))

pub ids-member : (xs : List IdSpan) (x : ℕ) → IsIn x (ids_of xs) → IsMember xs x
ids-member [] x h = absurd h
ids-member (s ∷ xs) x h = ⊎_elim
    (λ a. let p = descending-in s.low (width s) x a in let b = p.0 in let e = p.1 in inl (b, omega arith))
    (λ b. inr (ids-member xs x b))
    (in-either x (descending_from s.low (width s)) (ids_of xs) h)

pub member-ids : (xs : List IdSpan) (x : ℕ) → IsMember xs x → IsIn x (ids_of xs)
member-ids [] x h = absurd h
member-ids (s ∷ xs) x (inl i) =
    let a = i.0 in let b = i.1 in in-front x (descending_from s.low (width s)) (ids_of xs) (in-descending s.low (width s) x a (omega arith))
member-ids (s ∷ xs) x (inr m) = in-back x (descending_from s.low (width s)) (ids_of xs) (member-ids xs x m)

under-more : (a b : ℕ) (ys : List ℕ) → a ≤ b → AreUnder a ys → AreUnder b ys
under-more a b [] le h = tt
under-more a b (y ∷ ys) le h = let u = h.0 in (omega arith, under-more a b ys le h.1)

under-descending : (x low n : ℕ) (ys : List ℕ) → low + n ≤ x → AreUnder x ys → AreUnder x (descending_from low n ++ ys)
under-descending x low zero ys le h = h
under-descending x low (suc n) ys le h = (omega arith, under-descending x low n ys (omega arith) h)

descending-joined : (low n : ℕ) (ys : List ℕ) → AreUnder low ys → IsDescending ys → IsDescending (descending_from low n ++ ys)
descending-joined low zero ys u d = d
descending-joined low (suc n) ys u d =
    (under-descending (low + n) low n ys (le_refl _) (under-more low (low + n) ys (omega arith) u), descending-joined low n ys u d)

ids-under : (s : IdSpan) (xs : List IdSpan) → IsCanonical xs → AreBelow s xs → AreUnder s.low (ids_of xs)
ids-under s [] c b = tt
ids-under s (x ∷ xs) c b =
    let u = b.0.under in let o = c.0.order in
    under-descending s.low x.low (width x) (ids_of xs) (omega arith) (ids-under s xs c.2 b.1)

pub ids-descending : (xs : List IdSpan) → IsCanonical xs → IsDescending (ids_of xs)
ids-descending [] c = tt
ids-descending (s ∷ xs) c = descending-joined s.low (width s) (ids_of xs) (ids-under s xs c.2 c.1) (ids-descending xs c.2)

-- a canonical list has no empty span
pub filled-canonical : (xs : List IdSpan) → IsCanonical xs → are_filled xs ≡ true
filled-canonical [] c = refl
filled-canonical (s ∷ xs) c = both_true _ _ (le-leb _ _ c.0.order) (filled-canonical xs c.2)

pub filled-first : (s : IdSpan) (xs : List IdSpan) → are_filled (s ∷ xs) ≡ true → s.low ≤ s.high
filled-first s xs f = leb-true _ _ (and_true _ _ f).0

-- the first id of what is left of a span
pub first-left : (low n m : ℕ) (ys : List ℕ) (id : ℕ) → n ≡ suc m → id ≡ low + m → descending_from low n ++ ys ≡ id ∷ (descending_from low m ++ ys)
first-left low n m ys id e f =
    subst (λ k. descending_from low k ++ ys ≡ id ∷ (descending_from low m ++ ys)) (sym e) (ap (λ i. i ∷ (descending_from low m ++ ys)) (sym f))

-- the first id of the next span, where the span before is done
module _ (low end l h : ℕ) (xs rest : List IdSpan) (d : IdSpan) (some : 0 < length xs) (filled : are_filled xs ≡ true) (done : end ≤ low)
    (low-is : l ≡ (get_or xs 0 d).low) (high-is : h ≡ (get_or xs 0 d).high) (behind : rest ≡ take (length xs - 1) (drop 1 xs)) where
  pub next-span : descending_from low (end - low) ++ ids_of xs ≡ (get_or xs 0 d).high ∷ (descending_from l (h - l) ++ ids_of rest)
  next-span = go xs some filled low-is high-is behind
    where
      none : (k : ℕ) → k ≡ 0 → (ys : List ℕ) → descending_from low k ++ ys ≡ ys
      none k e ys = subst (λ k. descending_from low k ++ ys ≡ ys) (sym e) refl

      go : (xs : List IdSpan) → 0 < length xs → are_filled xs ≡ true → l ≡ (get_or xs 0 d).low → h ≡ (get_or xs 0 d).high → rest ≡ take (length xs - 1) (drop 1 xs)
          → descending_from low (end - low) ++ ids_of xs ≡ (get_or xs 0 d).high ∷ (descending_from l (h - l) ++ ids_of rest)
      go [] lt f el eh er = absurd (omega arith)
      go (s ∷ xs) lt f el eh er =
          let order = filled-first s xs f in
          let all : take (length (s ∷ xs) - 1) xs ≡ xs = take_all (length (s ∷ xs) - 1) xs (omega arith) in
          none (end - low) (omega arith) (ids_of (s ∷ xs))
          ∙ first-left s.low (width s) (s.high - s.low) (ids_of xs) s.high (omega arith) (omega arith)
          ∙ ap (λ l. s.high ∷ (descending_from l (s.high - l) ++ ids_of xs)) (sym el)
          ∙ ap (λ h. s.high ∷ (descending_from l (h - l) ++ ids_of xs)) (sym eh)
          ∙ ap (λ r. s.high ∷ (descending_from l (h - l) ++ ids_of r)) (sym (er ∙ all))

pub not-empty : (b : Bool) (n : ℕ) → b ≡ (n == 0) → b ≡ false → 0 < n
not-empty b zero e f = absurd (true≢false (sym e ∙ f))
not-empty b (suc n) e f = omega arith
