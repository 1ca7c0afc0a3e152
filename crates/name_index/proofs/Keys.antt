-- Keys of names in order.
use Rattle.std.proofs.Common.{◌≡◌, ◌∙◌, refl, sym, ap, ap₂, subst, ℕ, ◌<◌, ◌≤◌, ◌+◌, zero, suc, length, get_or, List, [], ◌∷◌, map, Bool, true, false, true≢false, inl, inr, arith, Ordering, Less, Equal, Greater, nat_cmp, is_lt}
use Rattle.std.specs.Ordering.{ordering_then, ordering_reverse, MatchOrdering}
use Rattle.std.specs.Cmp.{IsStrictWeakOrder}
use Rattle.std.specs.Cmp.Lexicographic.{slice_cmp}
use Rattle.std.specs.List.{AllByRecursion}
use Rattle.std.specs.List.Sorted.{IsSortedBy}
use Rattle.std.proofs.lemmas.Cmp.{ranked, nat_list_cmp_total}
use Rattle.std.proofs.lemmas.List.Sorted.{ranks_by, sorted_far}
use Rattle.id_groups.specs.Lists.{IsIn}
use Rattle.name_index.specs.Runs.{IsAscending, StandsFirst}

abbrev pub less : List ℕ → List ℕ → Bool
less a b = is_lt (slice_cmp nat_cmp a b)

pub order : IsStrictWeakOrder less
order = ranks_by nat_list_cmp_total (λ k. k)

equal-numbers : (a b : ℕ) (r : Ordering) → r ≡ nat_cmp a b → r ≡ Equal → a ≡ b
equal-numbers a b r e f = subst (λ o. MatchOrdering o (a < b) (a ≡ b) (b < a)) f (ranked a b r e)

then-equal : (o p : Ordering) → ordering_then o p ≡ Equal → (o ≡ Equal) × (p ≡ Equal)
then-equal Less p h = (h, absurd (true≢false (ap is_lt h)))
then-equal Equal p h = (refl, h)
then-equal Greater p h = absurd (greater h)
  where
    greater : Greater ≡ Equal → ⊥
    greater e = true≢false (ap (λ o. is_greater o) e)
      where
        is_greater : Ordering → Bool
        is_greater Less = false
        is_greater Equal = false
        is_greater Greater = true

pub equal-keys : (a b : List ℕ) → slice_cmp nat_cmp a b ≡ Equal → a ≡ b
equal-keys [] [] h = refl
equal-keys [] (y ∷ ys) h = absurd (true≢false (ap is_lt h))
equal-keys (x ∷ xs) [] h = absurd (true≢false (ap is_lt (ap ordering_reverse h)))
equal-keys (x ∷ xs) (y ∷ ys) h =
    let both = then-equal (nat_cmp x y) (slice_cmp nat_cmp xs ys) h in
    ap₂ (λ z zs. z ∷ zs) (equal-numbers x y _ refl both.0) (equal-keys xs ys both.1)

tied : (a b : List ℕ) (o : Ordering) → slice_cmp nat_cmp a b ≡ o → is_lt o ≡ false → less b a ≡ false → a ≡ b
tied a b Less e h g = absurd (true≢false h)
tied a b Equal e h g = equal-keys a b e
tied a b Greater e h g = absurd (true≢false (sym (ap is_lt (nat_list_cmp_total.antisymm b a ∙ ap ordering_reverse e)) ∙ g))

pub tied-keys : (a b : List ℕ) → less a b ≡ false → less b a ≡ false → a ≡ b
tied-keys a b h g = tied a b (slice_cmp nat_cmp a b) refl h g

-- what holds of all, and of each

module _ {X : Type 0} where
  pub each-of : (P : X → Type 0) (xs : List X) → AllByRecursion P xs → (x : X) → IsIn x xs → P x
  each-of P [] h x i = absurd i
  each-of P (y ∷ ys) h x (inl e) = subst P (sym e) h.0
  each-of P (y ∷ ys) h x (inr i) = each-of P ys h.1 x i

  pub all-of : (P : X → Type 0) (xs : List X) → ((x : X) → IsIn x xs → P x) → AllByRecursion P xs
  all-of P [] h = tt
  all-of P (y ∷ ys) h = (h y (inl refl), all-of P ys (λ x i. h x (inr i)))

  pub index-in : (xs : List X) (i : ℕ) (d : X) → i < length xs → IsIn (get_or xs i d) xs
  index-in [] i d h = absurd (omega arith)
  index-in (x ∷ xs) zero d h = inl refl
  index-in (x ∷ xs) (suc i) d h = inr (index-in xs i d (omega arith))

-- the head of keys that ascend stands among the others only where it stands first
pub again-first : (k m : List ℕ) (ms : List (List ℕ)) → IsAscending (k ∷ m ∷ ms) → IsIn k (m ∷ ms) → k ≡ m
again-first k m ms up (inl e) = e
again-first k m ms up (inr i) =
    let back = each-of (λ z. less z m ≡ false) ms up.1.0 k i in
    tied-keys k m back up.0.0

-- a key before keys that ascend, the first of which isn't less
pub first-ascends : (k : List ℕ) (ks : List (List ℕ)) → StandsFirst k ks → IsAscending ks → IsAscending (k ∷ ks)
first-ascends k [] f up = (tt, tt)
first-ascends k (m ∷ ms) f up = ((f, none-less ms up.0), up)
  where
    none-less : (zs : List (List ℕ)) → AllByRecursion (λ z. less z m ≡ false) zs → AllByRecursion (λ z. less z k ≡ false) zs
    none-less [] h = tt
    none-less (z ∷ zs) h = (order.chain z m k h.0 f, none-less zs h.1)

-- a sorted list's keys ascend, and the other way round
module _ {X : Type 0} (key : X → List ℕ) where
  abbrev by : X → X → Bool
  by x y = less (key x) (key y)

  head-up : (x : X) (xs : List X) → ((k : ℕ) (d : X) → k < length xs → by (get_or xs k d) x ≡ false) → AllByRecursion (λ m. less m (key x) ≡ false) (map key xs)
  head-up x [] h = tt
  head-up x (y ∷ ys) h = (h 0 x (omega arith), head-up x ys (λ k d p. h (suc k) d (omega arith)))

  far-up : (xs : List X) → ((i j : ℕ) (d : X) → i ≤ j → j < length xs → by (get_or xs j d) (get_or xs i d) ≡ false) → IsAscending (map key xs)
  far-up [] h = tt
  far-up (x ∷ xs) h = (head-up x xs (λ k d p. h 0 (suc k) d (omega arith) (omega arith)), far-up xs (λ i j d p q. h (suc i) (suc j) d (omega arith) (omega arith)))

  pub ascending-sorted : (xs : List X) → IsSortedBy by xs → IsAscending (map key xs)
  ascending-sorted xs h = far-up xs (sorted_far by (ranks_by nat_list_cmp_total key) xs h)

  pub sorted-ascending : (xs : List X) → IsAscending (map key xs) → IsSortedBy by xs
  sorted-ascending [] h k d l p = absurd (omega arith)
  sorted-ascending (x ∷ []) h k d l p = absurd (omega arith)
  sorted-ascending (x ∷ y ∷ ys) h zero d l p = h.0.0
  sorted-ascending (x ∷ y ∷ ys) h (suc k) d l p =
      let e : suc (k + 1) ≡ suc k + 1 = omega arith in
      subst (λ n. by (get_or (x ∷ y ∷ ys) n d) (get_or (y ∷ ys) k d) ≡ false) e (sorted-ascending (y ∷ ys) h.1 k d (omega arith) (omega arith))
