-- Lists in another order.
use Rattle.std.proofs.Common.{◌≡◌, ◌∙◌, refl, sym, ap, ap₂, subst, ℕ, ◌<◌, ◌≤◌, ◌+◌, length, get_or, set, List, [], ◌∷◌, map, Bool, true, false, cond, inl, inr, arith}
use Rattle.std.specs.List.{AllByRecursion, sum_by, swap}
use Rattle.std.specs.List.Sorted.{IsPermutation}
use Rattle.std.proofs.lemmas.List.{map-set, get_or-map, length-map}
use Rattle.std.proofs.lemmas.List.Elements.{All-from_recursion, recursion_from_All}
use Rattle.std.proofs.lemmas.List.Sorted.{All-permutation, IsPermutation-keeps, IsPermutation-swap, IsPermutation-trans, IsPermutation-refl, sum_by-IsPermutation}
use Rattle.std.proofs.lemmas.List.Sums.{sum_by-cons}
use Rattle.id_groups.specs.Lists.{IsIn, AreDistinct}
use Rattle.id_groups.specs.Name.{Name, same_name}
use Rattle.id_groups.proofs.Names.{same_name-exact, same_name-self}
use Rattle.name_index.proofs.Keys.{each-of, all-of}

module _ {X : Type 0} where
  pub all-moved : (P : X → Type 0) (xs ys : List X) → IsPermutation xs ys → AllByRecursion P xs → AllByRecursion P ys
  all-moved P xs ys p h = recursion_from_All P ys (All-permutation P xs ys p (All-from_recursion P xs h))

  pub in-moved : (xs ys : List X) → IsPermutation xs ys → (x : X) → IsIn x ys → IsIn x xs
  in-moved xs ys p x i = each-of (λ z. IsIn z xs) ys (all-moved (λ z. IsIn z xs) xs ys p (all-of (λ z. IsIn z xs) xs (λ z j. j))) x i

-- how often a name stands in a list
abbrev one_if : Bool → ℕ
one_if b = cond b 1 0

abbrev count : Name → List Name → ℕ
count k names = sum_by (λ name. one_if (same_name k name)) names

count-cons : (k name : Name) (names : List Name) → count k (name ∷ names) ≡ one_if (same_name k name) + count k names
count-cons k name names = sum_by-cons (λ n. one_if (same_name k n)) name names

count-some : (k : Name) (names : List Name) → IsIn k names → 1 ≤ count k names
count-some k [] i = absurd i
count-some k (name ∷ names) (inl e) = let one : one_if (same_name k name) ≡ 1 = ap (λ b. one_if b) (subst (λ z. same_name k z ≡ true) e (same_name-self k)) in omega (arith, count-cons k name names, one)
count-some k (name ∷ names) (inr i) = omega (arith, count-cons k name names, count-some k names i)

one-test : (k name : Name) (b : Bool) → same_name k name ≡ b → (k ≡ name → ⊥) → one_if b ≡ 0
one-test k name true e n = absurd (n (same_name-exact k name e))
one-test k name false e n = refl

count-none : (k : Name) (names : List Name) → (IsIn k names → ⊥) → count k names ≡ 0
count-none k [] n = refl
count-none k (name ∷ names) n = omega (arith, count-cons k name names, one-test k name (same_name k name) refl (λ e. n (inl e)), count-none k names (λ i. n (inr i)))

count-head : (k name : Name) (names : List Name) (b : Bool) → same_name k name ≡ b → (IsIn name names → ⊥) → count k names ≤ 1 → one_if b + count k names ≤ 1
count-head k name names true e n le = let none : count k names ≡ 0 = subst (λ z. count z names ≡ 0) (sym (same_name-exact k name e)) (count-none name names n) in omega (arith, none)
count-head k name names false e n le = omega (arith, le)

distinct-count : (names : List Name) → AreDistinct names → (k : Name) → count k names ≤ 1
distinct-count [] h k = omega arith
distinct-count (name ∷ names) h k = let le = count-head k name names (same_name k name) refl h.0 (distinct-count names h.1 k) in omega (arith, count-cons k name names, le)

count-distinct : (names : List Name) → ((k : Name) → count k names ≤ 1) → AreDistinct names
count-distinct [] h = tt
count-distinct (name ∷ names) h =
    let one : one_if (same_name name name) ≡ 1 = ap (λ b. one_if b) (same_name-self name) in (
      (λ i. let more = count-some name names i in let le = h name in absurd (omega (arith, count-cons name name names, one, more, le))),
      count-distinct names (λ k. let le = h k in omega (arith, count-cons k name names, le)),
    )

pub distinct-moved : (xs ys : List Name) → IsPermutation xs ys → AreDistinct xs → AreDistinct ys
distinct-moved xs ys p h = count-distinct ys (λ k. let le = distinct-count xs h k in omega (arith, sum_by-IsPermutation (λ name. one_if (same_name k name)) xs ys p, le))

-- what is a list's image in another order is the image of the list in that order
pub record Image {X Y : Type 0} (f : X → Y) (xs : List X) (ys : List Y) : Type 0 where
  pub of : List X
  pub is : ys ≡ map f of
  pub same : IsPermutation xs of

module _ {X Y : Type 0} (f : X → Y) where
  pub map-swap : (xs : List X) (i j : ℕ) → i < length xs → j < length xs → swap (map f xs) i j ≡ map f (swap xs i j)
  map-swap [] i j p q = refl
  map-swap (x ∷ xs) i j p q =
      let l = x ∷ xs in
      let at_i : get_or (map f l) i (f x) ≡ f (get_or l i x) = get_or-map f l i x (f x) p in
      let at_j : get_or (map f l) j (f x) ≡ f (get_or l j x) = get_or-map f l j x (f x) q in
      ap₂ (λ a b. set (set (map f l) i a) j b) at_j at_i
      ∙ ap (λ m. set m j (f (get_or l i x))) (sym (map-set f l i (get_or l j x)))
      ∙ sym (map-set f (set l i (get_or l j x)) j (get_or l i x))

  pub image-moved : (xs : List X) (ys : List Y) → IsPermutation (map f xs) ys → Image f xs ys
  image-moved xs ys p = IsPermutation-keeps (map f xs) (Image f xs) start step ys p
    where
      start : Image f xs (map f xs)
      start = record { of = xs; is = refl; same = IsPermutation-refl xs }

      step : (l : List Y) (i j : ℕ) → i < length l → j < length l → Image f xs l → Image f xs (swap l i j)
      step l i j p q im =
          let p' : i < length im.of = omega (arith, ap length im.is, length-map im.of f) in
          let q' : j < length im.of = omega (arith, ap length im.is, length-map im.of f) in
          record {
            of = swap im.of i j;
            is = ap (λ m. swap m i j) im.is ∙ map-swap im.of i j p' q';
            same = IsPermutation-trans xs im.of (swap im.of i j) im.same (IsPermutation-swap im.of (swap im.of i j) i j p' q' refl);
          }
