-- Placing of numbers.
use Rattle.std.proofs.Common.{◌≡◌, ℕ, zero, suc, ◌+◌, ◌<◌, ◌≤◌, true, false, inl, inr, List, [], ◌∷◌, ◌++◌, length, take, get_or, refl, sym, ap, subst, ◌∙◌, ⊎_elim, arith, le_of_suc-le-suc}
use Rattle.std.specs.Prelude.{nat_eq, ◌↔◌}
use Rattle.std.proofs.lemmas.Bool.{eq-eqb}
use Rattle.std.proofs.lemmas.List.{take_all}
use Rattle.std.proofs.lemmas.Map.Views.{exact_unsigned_eq}
use Rattle.std.proofs.Math.Nat.{eq-or-lt_of_le}
use Rattle.id_groups.specs.Lists.{IsIn, is_in, AreAllIn, AreDistinct}
use Rattle.commit_graph.specs.World.{Row, names_of}
use Rattle.assign_ids.specs.Placing.{place, place_all}
use Rattle.assign_ids.specs.Numbers.{others_of, AreBelow, HaveOlderParents, rows_below, order_of, graph_below}
use Rattle.assign_ids.specs.declared.graph.Node.{Node}
use Rattle.assign_ids.proofs.Placings.{IsDown, IsOrder, IsPlaced, AreParents, place-there, place-behind, older-place_all, places, all-places}
use Rattle.assign_ids.proofs.Reached.{ReachedFrom, place-reached, all-reached, place-grows, all-grow, order-walks, order-once, order-first, one-in}

pub same-self : (x : ℕ) → nat_eq x x ≡ true
same-self x = eq-eqb x x refl

pub same-exact : (x y : ℕ) → nat_eq x y ≡ true → x ≡ y
same-exact x y h = exact_unsigned_eq x y h

zero-if : (n : ℕ) → n ≤ 0 → n ≡ 0
zero-if n le = omega (arith, le)

pub below-more : (n m : ℕ) (ks : List ℕ) → n ≤ m → AreBelow n ks → AreBelow m ks
below-more n m [] le h = tt
below-more n m (k ∷ ks) le h = (let lt = h.0 in omega (arith, le, lt), below-more n m ks le h.1)

pub below-in : (n : ℕ) (ks : List ℕ) (k : ℕ) → AreBelow n ks → IsIn k ks → k < n
below-in n [] k h i = absurd i
below-in n (j ∷ ks) k h (inl e) = let P : ℕ → Type 0 = λ z. z < n in subst P (sym e) h.0
below-in n (j ∷ ks) k h (inr i) = below-in n ks k h.1 i

module _ (parents : ℕ → List Node) where
  pub below-name : (n k : ℕ) → k < n → IsIn k (names_of (rows_below parents n))
  below-name zero k lt = absurd (omega (arith, lt))
  below-name (suc n) k lt = ⊎_elim (λ e. inl e) (λ less. inr (below-name n k less)) (eq-or-lt_of_le (le_of_suc-le-suc lt))

  pub name-below : (n k : ℕ) → IsIn k (names_of (rows_below parents n)) → k < n
  name-below zero k i = absurd i
  name-below (suc n) k (inl e) = omega (arith, e)
  name-below (suc n) k (inr i) = let lt = name-below n k i in omega (arith, lt)

  all-below : (n : ℕ) (ks : List ℕ) → AreBelow n ks → AreAllIn ks (names_of (rows_below parents n))
  all-below n [] h = tt
  all-below n (k ∷ ks) h = (below-name n k h.0, all-below n ks h.1)

  rows-down : HaveOlderParents parents → (n : ℕ) → IsDown (rows_below parents n)
  rows-down older zero = tt
  rows-down older (suc n) =
      (record { fresh = λ i. let lt = name-below n n i in omega (arith, lt); known = all-below n (others_of (parents n)) (older n) }, rows-down older n)

  rows-parents : (n : ℕ) → AreParents (λ k. others_of (parents k)) (rows_below parents n)
  rows-parents zero = tt
  rows-parents (suc n) = (refl, rows-parents n)

  row-below : (n k : ℕ) → k < n → IsIn (record { name = k; parents = others_of (parents k) }) (rows_below parents n)
  row-below zero k lt = absurd (omega (arith, lt))
  row-below (suc n) k lt = ⊎_elim (λ e. inl (ap {B = Row ℕ} (λ z. record { name = z; parents = others_of (parents z) }) e)) (λ less. inr (row-below n k less)) (eq-or-lt_of_le (le_of_suc-le-suc lt))

  -- a number that isn't in the order goes behind its parents
  pub number-behind : HaveOlderParents parents → (n x : ℕ) (order : List ℕ) → x < n → is_in nat_eq x order ≡ false
      → place nat_eq (rows_below parents n) order x ≡ place_all nat_eq (rows_below parents n) order (others_of (parents x)) ++ x ∷ []
  number-behind older n x order lt new =
      place-behind nat_eq same-exact same-self (λ k. others_of (parents k)) (rows_below parents n) (rows-down older n) (record { name = x; parents = others_of (parents x) }) (row-below n x lt) order new

  pub number-there : (n x : ℕ) (order : List ℕ) → is_in nat_eq x order ≡ true → place nat_eq (rows_below parents n) order x ≡ order
  number-there n x order h = place-there nat_eq same-exact same-self (λ k. others_of (parents k)) (rows_below parents n) order x h

  -- more rows behind give the same order
  pub more-rows : HaveOlderParents parents → (n more : ℕ) (order xs : List ℕ) → AreBelow n xs → n ≤ more
      → place_all nat_eq (rows_below parents more) order xs ≡ place_all nat_eq (rows_below parents n) order xs
  more-rows older n zero order xs h le = ap (λ z. place_all nat_eq (rows_below parents z) order xs) (sym (zero-if n le))
  more-rows older n (suc more) order xs h le = ⊎_elim
      (λ e. ap (λ z. place_all nat_eq (rows_below parents z) order xs) (sym e))
      (λ less.
      older-place_all nat_eq same-exact same-self (λ k. others_of (parents k)) (record { name = more; parents = others_of (parents more) }) (rows_below parents more) (rows-down older (suc more)).0 order xs
      (all-below more xs (below-more n more xs (le_of_suc-le-suc less) h))
      ∙ more-rows older n more order xs h (le_of_suc-le-suc less))
      (eq-or-lt_of_le le)

  module _ (older : HaveOlderParents parents) (n : ℕ) (heads : List ℕ) (below : AreBelow n heads) where
    is-placed : IsPlaced (λ k. others_of (parents k)) (rows_below parents n) [] (order_of parents n heads) × AreAllIn heads (order_of parents n heads)
    is-placed = all-places nat_eq same-exact same-self (λ k. others_of (parents k)) (rows_below parents n)
        (places nat_eq same-exact same-self (λ k. others_of (parents k)) (rows_below parents n) (rows-down older n) (rows-parents n)) [] heads tt (all-below n heads below)

    pub once : AreDistinct (order_of parents n heads)
    once = (order-once (λ k. others_of (parents k)) [] (order_of parents n heads) is-placed.0.good).0

    pub first : (before after : List ℕ) (x : ℕ) → order_of parents n heads ≡ before ++ (x ∷ after) → AreAllIn (others_of (parents x)) before
    first before after x e = order-first (λ k. others_of (parents k)) [] before after x (subst (IsOrder (λ k. others_of (parents k)) []) e is-placed.0.good)

    pub exactly : (x : ℕ) → IsIn x (order_of parents n heads) ↔ ReachedFrom (graph_below parents n) heads x
    exactly x = (
      λ i. ⊎_elim (λ j. absurd j) (λ t. t)
          (all-reached nat_eq same-exact (graph_below parents n) (rows_below parents n) (place-reached nat_eq same-exact (graph_below parents n) (rows_below parents n) (rows-parents n)) [] heads x i),
      λ t. order-walks (graph_below parents n) (order_of parents n heads) is-placed.0.good t.0 t.2.0 x (one-in heads (order_of parents n heads) t.0 t.1 is-placed.1) t.2.1,
    )

  pub number-grows : (n : ℕ) (order xs : List ℕ) → length order ≤ length (place_all nat_eq (rows_below parents n) order xs)
  number-grows n order xs = all-grow nat_eq same-exact (rows_below parents n) (place-grows nat_eq same-exact (rows_below parents n)) order xs

pub below-at : (n : ℕ) (ks : List ℕ) (i : ℕ) → i < length ks → AreBelow n ks → get_or ks i 0 < n
below-at n [] i lt h = absurd (omega (arith, lt))
below-at n (k ∷ ks) zero lt h = h.0
below-at n (k ∷ ks) (suc i) lt h = below-at n ks i (omega (arith, lt)) h.1

module _ (parents : ℕ → List Node) (size : ℕ) where
  pub all-heads : HaveOlderParents parents → (heads : List ℕ) (i : ℕ) (order : List ℕ) → length heads ≤ i
      → order ≡ place_all nat_eq (rows_below parents size) [] (take i heads) → AreBelow size heads → ((n : ℕ) → AreBelow n heads → size ≤ n)
      → (n : ℕ) → AreBelow n heads → order ≡ order_of parents n heads
  all-heads older heads i order le e above least n below =
      e ∙ ap (λ ks. place_all nat_eq (rows_below parents size) [] ks) (take_all i heads le) ∙ sym (more-rows parents older size n [] heads above (least n below))
