-- What placing adds to an order is what the placed commit reaches.
use Rattle.std.proofs.Common.{◌≡◌, ◌≤◌, Bool, true, false, ◌⊎◌, inl, inr, List, [], ◌∷◌, ◌++◌, length, refl, sym, subst, if◌then◌else◌, ⊎_elim, arith, le_refl, append_assoc, append-nil}
use Rattle.std.proofs.lemmas.List.{length-append}
use Rattle.id_groups.specs.Lists.{IsIn, is_in, AreAllIn, AreDistinct}
use Rattle.commit_graph.specs.World.{Row}
use Rattle.commit_graph.specs.Graph.{Graph, IsWalk, Reaches}
use Rattle.commit_graph.proofs.Histories.{in-append}
use Rattle.commit_graph.proofs.Down.{in-left, in-right}
use Rattle.commit_graph.proofs.Walks.{reaches-self, reaches-parent}
use Rattle.assign_ids.specs.Placing.{place, place_all}
use Rattle.assign_ids.proofs.Placings.{AreParents, IsOrder}

-- one of these reaches y
abbrev pub ReachedFrom : {N : Type 0} → Graph N → List N → N → Type 0
ReachedFrom {N} g heads y = (head : N) × IsIn head heads × Reaches g head y

module _ {N : Type 0} (same : N → N → Bool) (exact : (x y : N) → same x y ≡ true → x ≡ y) where
  pub all-grow : (rows : List (Row N)) → ((order : List N) (x : N) → length order ≤ length (place same rows order x)) → (order xs : List N) → length order ≤ length (place_all same rows order xs)
  all-grow rows grows order [] = le_refl (length order)
  all-grow rows grows order (x ∷ xs) =
      let one = grows order x in let rest = all-grow rows grows (place same rows order x) xs in omega (arith, one, rest)

  -- placing never takes a commit out of the order
  pub place-grows : (rows : List (Row N)) (order : List N) (x : N) → length order ≤ length (place same rows order x)
  place-grows [] order x = le_refl (length order)
  place-grows (r ∷ older) order x = pick (is_in same x order) (same r.name x) (all-grow older (place-grows older) order r.parents) (place-grows older order x)
    where
      pick : (in_order : Bool) (here : Bool) → length order ≤ length (place_all same older order r.parents) → length order ≤ length (place same older order x)
          → length order ≤ length (if in_order then order else (if here then place_all same older order r.parents ++ x ∷ [] else place same older order x))
      pick true here a b = le_refl (length order)
      pick false true a b = let e = length-append (place_all same older order r.parents) (x ∷ []) in omega (arith, e, a)
      pick false false a b = b

  module _ (g : Graph N) where
    -- what placing adds is reached
    abbrev pub AddsReached : List (Row N) → Type 0
    AddsReached rows = (order : List N) (x y : N) → IsIn y (place same rows order x) → IsIn y order ⊎ Reaches g x y

    pub all-reached : (rows : List (Row N)) → AddsReached rows → (order xs : List N) (y : N) → IsIn y (place_all same rows order xs) → IsIn y order ⊎ ReachedFrom g xs y
    all-reached rows adds order [] y i = inl i
    all-reached rows adds order (x ∷ xs) y i =
        ⊎_elim (λ j. ⊎_elim (λ k. inl k) (λ r. inr (x, inl refl, r)) (adds order x y j)) (λ t. inr (t.0, inr t.1, t.2)) (all-reached rows adds (place same rows order x) xs y i)

    pub place-reached : (rows : List (Row N)) → AreParents g.parents rows → AddsReached rows
    place-reached [] e order x y i = inl i
    place-reached (r ∷ older) e order x y i =
        pick r older e.0 order x y (is_in same x order) (same r.name x) refl (all-reached older (place-reached older e.1) order r.parents y) (place-reached older e.1 order x y) i
      where
        pick : (r : Row N) (older : List (Row N)) → g.parents r.name ≡ r.parents → (order : List N) (x y : N) → (in_order : Bool) (here : Bool) → same r.name x ≡ here
            → (IsIn y (place_all same older order r.parents) → IsIn y order ⊎ ReachedFrom g r.parents y)
            → (IsIn y (place same older order x) → IsIn y order ⊎ Reaches g x y)
            → IsIn y (if in_order then order else (if here then place_all same older order r.parents ++ x ∷ [] else place same older order x)) → IsIn y order ⊎ Reaches g x y
        pick r older e order x y true here f a b i = inl i
        pick r older e order x y false false f a b i = b i
        pick r older e order x y false true f a b i =
            let is : g.parents x ≡ r.parents = subst (λ z. g.parents z ≡ r.parents) (exact r.name x f) e in
            ⊎_elim
            (λ j. ⊎_elim (λ k. inl k) (λ t. inr (reaches-parent g x t.0 y (subst (IsIn t.0) (sym is) t.1) t.2)) (a j))
            (λ j. ⊎_elim (λ k. inr (subst (Reaches g x) (sym k) (reaches-self g x))) (λ k. absurd k) j)
            (in-append y (place_all same older order r.parents) (x ∷ []) i)

widen-all : {N : Type 0} (ps before xs : List N) → AreAllIn ps before → AreAllIn ps (before ++ xs)
widen-all [] before xs a = tt
widen-all (p ∷ ps) before xs a = (in-left p before xs a.0, widen-all ps before xs a.1)

-- what stands in an order has its parents there
pub order-parents : {N : Type 0} (par : N → List N) (before xs : List N) → IsOrder par before xs → (x : N) → IsIn x xs → AreAllIn (par x) (before ++ xs)
order-parents par before [] h x i = absurd i
order-parents par before (y ∷ xs) h x (inl e) = subst (λ z. AreAllIn (par z) (before ++ (y ∷ xs))) (sym e) (widen-all (par y) before (y ∷ xs) h.1)
order-parents par before (y ∷ xs) h x (inr i) = subst (AreAllIn (par x)) (append_assoc before (y ∷ []) xs) (order-parents par (before ++ y ∷ []) xs h.2 x i)

pub one-in : {N : Type 0} (xs ys : List N) (x : N) → IsIn x xs → AreAllIn xs ys → IsIn x ys
one-in [] ys x i a = absurd i
one-in (y ∷ xs) ys x (inl e) a = subst (λ z. IsIn z ys) (sym e) a.0
one-in (y ∷ xs) ys x (inr i) a = one-in xs ys x i a.1

-- so it has all there that these reach
pub order-walks : {N : Type 0} (g : Graph N) (xs : List N) → IsOrder g.parents [] xs → (x : N) (walk : List N) (y : N) → IsIn x xs → IsWalk g x walk y → IsIn y xs
order-walks g xs h x [] y i w = subst (λ z. IsIn z xs) w i
order-walks g xs h x (p ∷ walk) y i w = order-walks g xs h p walk y (one-in (g.parents x) xs p w.0 (order-parents g.parents [] xs h x i)) w.1

-- each commit of an order stands in it once
pub order-once : {N : Type 0} (par : N → List N) (before xs : List N) → IsOrder par before xs → AreDistinct xs × ((x : N) → IsIn x xs → IsIn x before → ⊥)
order-once par before [] h = (tt, λ x i j. i)
order-once par before (y ∷ xs) h =
    let rest = order-once par (before ++ y ∷ []) xs h.2 in (
      (λ i. rest.1 y i (in-right y before (y ∷ []) (inl refl)), rest.0),
      λ x i j. ⊎_elim (λ e. h.0 (subst (λ z. IsIn z before) e j)) (λ k. rest.1 x k (in-left x before (y ∷ []) j)) i,
    )

-- the parents of each commit stand before it
pub order-first : {N : Type 0} (par : N → List N) (start before after : List N) (x : N) → IsOrder par start (before ++ (x ∷ after)) → AreAllIn (par x) (start ++ before)
order-first par start [] after x h = subst (AreAllIn (par x)) (sym (append-nil start)) h.1
order-first par start (y ∷ before) after x h = subst (AreAllIn (par x)) (append_assoc start (y ∷ []) before) (order-first par (start ++ y ∷ []) before after x h.2)
