-- The list after a span was joined with those that it meets.
use Rattle.std.proofs.Common.{◌≡◌, ℕ, zero, suc, ◌+◌, ◌-◌, ◌<◌, ◌≤◌, ◌⊎◌, ◌↔◌, List, [], ◌∷◌, ◌++◌, length, get_or, take, drop, min, max, refl, sym, subst, ap, ◌∙◌, arith, le_of_suc-le-suc, add-zero}
use Rattle.std.specs.Prelude.{slice_set}
use Rattle.std.specs.List.{remove_range}
use Rattle.std.proofs.lemmas.List.{take-append-drop, drop-drop, get_or-drop, get_or-take, length-take-le, length-drop, get_or_default}
use Rattle.id_groups.specs.declared.span.IdSpan.{IdSpan}
use Rattle.id_groups.specs.Span.{IsSpan, IsInSpan}
use Rattle.span_set.specs.Members.{IsBelow, IsMember, IsCanonical, AreBelow}
use Rattle.span_set.specs.Places.{AreAbove, AreNotAbove, AreNotBelow}
use Rattle.span_set.proofs.MemberLemmas.{join-canonical, join-members}

pub parts : (xs : List IdSpan) (from to : ℕ) → from ≤ to → take from xs ++ (take (to - from) (drop from xs) ++ drop to xs) ≡ xs
parts xs from to le =
    let sum : from + (to - from) ≡ to = omega arith in
    let rest : drop (to - from) (drop from xs) ≡ drop to xs = drop-drop (to - from) from xs ∙ ap (λ n. drop n xs) sum in
    ap (λ l. take from xs ++ (take (to - from) (drop from xs) ++ l)) (sym rest) ∙ ap (λ l. take from xs ++ l) (take-append-drop (to - from) (drop from xs)) ∙ take-append-drop from xs

not-above-first : (t : IdSpan) (xs : List IdSpan) (n : ℕ) (d : IdSpan) → n < length xs → AreNotAbove t (drop n xs) → IsBelow t (get_or xs n d) → ⊥
not-above-first t [] n d lt h = absurd (omega arith)
not-above-first t (x ∷ xs) zero d lt h = h.0
not-above-first t (x ∷ xs) (suc n) d lt h = not-above-first t xs n d (le_of_suc-le-suc lt) h

not-below-last : (t : IdSpan) (xs : List IdSpan) (n : ℕ) (d : IdSpan) → n < length xs → AreNotBelow t (take (suc n) xs) → IsBelow (get_or xs n d) t → ⊥
not-below-last t [] n d lt h = absurd (omega arith)
not-below-last t (x ∷ xs) zero d lt h = h.0
not-below-last t (x ∷ xs) (suc n) d lt h = not-below-last t xs n d (le_of_suc-le-suc lt) h.1

-- ys is xs with the span t
pub record Added (xs ys : List IdSpan) (t : IdSpan) : Type 0 where
  pub canonical : IsCanonical ys
  pub members : (x : ℕ) → IsMember ys x ↔ (IsMember xs x ⊎ IsInSpan x t)

pub join-all : (t m f l : IdSpan) (xs : List IdSpan) (from to : ℕ) → IsCanonical xs → IsSpan t → from < to → to ≤ length xs
    → f ≡ get_or xs from f → l ≡ get_or xs (to - 1) l → m.low ≡ min t.low l.low → m.high ≡ max t.high f.high
    → AreAbove t (take from xs) → AreNotAbove t (drop from xs) → AreNotBelow t (take to xs) → AreBelow t (drop to xs)
    → Added xs (take from xs ++ m ∷ drop to xs) t
join-all t m f l xs from to c st lt within ef el low high above not_above not_below below =
    let ms = take (to - from) (drop from xs) in
    let k = to - from - 1 in
    let whole = parts xs from to (omega arith) in
    let long : length (drop from xs) ≡ length xs - from = length-drop from xs in
    let size : length ms ≡ suc k = length-take-le (to - from) (drop from xs) (omega arith) ∙ omega arith in
    let first : get_or ms 0 t ≡ f =
    get_or-take (to - from) (drop from xs) 0 t (omega arith) ∙ get_or-drop from xs 0 t ∙ ap (λ n. get_or xs n t) (add-zero from) ∙ get_or_default xs from t f (omega arith) ∙ sym ef in
    let last : get_or ms k t ≡ l =
    get_or-take (to - from) (drop from xs) k t (omega arith) ∙ get_or-drop from xs k t ∙ ap (λ n. get_or xs n t) (omega arith) ∙ get_or_default xs (to - 1) t l (omega arith) ∙ sym el in
    let cw : IsCanonical (take from xs ++ (ms ++ drop to xs)) = subst IsCanonical (sym whole) c in
    let lowm : m.low ≡ min t.low (get_or ms k t).low = low ∙ ap (λ (s : IdSpan). min t.low s.low) (sym last) in
    let highm : m.high ≡ max t.high (get_or ms 0 t).high = high ∙ ap (λ (s : IdSpan). max t.high s.high) (sym first) in
    let nf : IsBelow t (get_or ms 0 t) → ⊥ = λ b. not-above-first t xs from f (omega arith) not_above (subst (λ s. IsBelow t s) (first ∙ ef) b) in
    let one : to ≡ suc (to - 1) = omega arith in
    let nl : IsBelow (get_or ms k t) t → ⊥ = λ b. not-below-last t xs (to - 1) l (omega arith) (subst (λ n. AreNotBelow t (take n xs)) one not_below) (subst (λ s. IsBelow s t) (last ∙ el) b) in
    record {
      canonical = join-canonical t m t (take from xs) ms (drop to xs) k size cw st lowm highm nf nl above below;
      members = λ x. subst (λ l. IsMember (take from xs ++ m ∷ drop to xs) x ↔ (IsMember l x ⊎ IsInSpan x t)) whole
          (join-members t m t (take from xs) ms (drop to xs) k size cw st lowm highm nf nl above below x);
    }

pub set-split : (xs : List IdSpan) (n to : ℕ) (m : IdSpan) → n < length xs → to ≡ suc n → slice_set xs n m ≡ take n xs ++ m ∷ drop to xs
set-split [] n to m lt e = absurd (omega arith)
set-split (x ∷ xs) zero to m lt e = subst (λ k. m ∷ xs ≡ m ∷ drop k (x ∷ xs)) (sym e) refl
set-split (x ∷ xs) (suc n) to m lt e =
    subst (λ k. x ∷ slice_set xs n m ≡ x ∷ (take n xs ++ m ∷ drop k (x ∷ xs))) (sym e) (ap (λ l. x ∷ l) (set-split xs n (suc n) m (le_of_suc-le-suc lt) refl))

pub remove-split : (xs : List IdSpan) (n k to : ℕ) (m : IdSpan) → n < to → to ≤ length xs → k ≡ suc n → remove_range (slice_set xs n m) k to ≡ take n xs ++ m ∷ drop to xs
remove-split xs n k to m lt le e = subst (λ k. remove_range (slice_set xs n m) k to ≡ take n xs ++ m ∷ drop to xs) (sym e) (go xs n to m lt le)
  where
    go : (xs : List IdSpan) (n to : ℕ) (m : IdSpan) → n < to → to ≤ length xs → remove_range (slice_set xs n m) (suc n) to ≡ take n xs ++ m ∷ drop to xs
    go [] n to m lt le = absurd (omega arith)
    go (x ∷ xs) n zero m lt le = absurd (omega arith)
    go (x ∷ xs) zero (suc to) m lt le = refl
    go (x ∷ xs) (suc n) (suc to) m lt le = ap (λ l. x ∷ l) (go xs n to m (le_of_suc-le-suc lt) (le_of_suc-le-suc le))
