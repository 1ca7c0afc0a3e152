-- Placing by names is placing by numbers: commits outside master have numbers, and a parent in master counts as placed.
use Rattle.std.proofs.Common.{◌≡◌, ◌<◌, ◌≤◌, ℕ, zero, suc, Bool, true, false, inl, inr, List, [], ◌∷◌, ◌++◌, map, refl, sym, ap, subst, ◌∙◌, ⊎_elim, append_assoc, append-nil, arith, nat_eq, le_refl}
use Rattle.std.proofs.lemmas.List.{map-append}
use Rattle.std.proofs.lemmas.Bool.{false_from_ne_true}
use Rattle.id_groups.specs.Lists.{IsIn, is_in}
use Rattle.id_groups.specs.Name.{Name, same_name}
use Rattle.id_groups.proofs.Names.{same_name-exact, same_name-self}
use Rattle.id_groups.proofs.Listing.{found, there, missing}
use Rattle.commit_graph.specs.World.{Row}
use Rattle.commit_graph.proofs.Histories.{in-append}
use Rattle.commit_graph.proofs.Down.{in-left, in-right}
use Rattle.assign_ids.specs.Placing.{place, place_all}
use Rattle.assign_ids.specs.Numbers.{AreBelow, HaveOlderParents, others_of, rows_below, order_of}
use Rattle.assign_ids.specs.declared.graph.Node.{Node}
use Rattle.assign_ids.specs.declared.graph.Node.TheVariants.{Placed, Other}
use Rattle.assign_ids.proofs.NumberLemmas.{same-self, same-exact, below-in, below-more, number-there, number-behind}
use Rattle.assign_ids.proofs.Placings.{IsDown, place-there, place-behind}

pub in-map : {X Y : Type 0} (f : X → Y) (x : X) (xs : List X) → IsIn x xs → IsIn (f x) (map f xs)
in-map f x [] i = absurd i
in-map f x (y ∷ xs) (inl e) = inl (ap f e)
in-map f x (y ∷ xs) (inr i) = inr (in-map f x xs i)

pub map-in-back : {X Y : Type 0} (f : X → Y) (y : Y) (xs : List X) → IsIn y (map f xs) → (x : X) × IsIn x xs × (y ≡ f x)
map-in-back f y [] i = absurd i
map-in-back f y (x ∷ xs) (inl e) = (x, inl refl, e)
map-in-back f y (x ∷ xs) (inr i) = let r = map-in-back f y xs i in (r.0, inr r.1, r.2)

pub below-append : (n : ℕ) (xs ys : List ℕ) → AreBelow n xs → AreBelow n ys → AreBelow n (xs ++ ys)
below-append n [] ys h k = k
below-append n (x ∷ xs) ys h k = (h.0, below-append n xs ys h.1 k)

-- the nodes of some commits: those in master are placed, and of any other it is the number
abbrev pub Agree : List Name → ℕ → (ℕ → Name) → List Name → List Node → Type 0
Agree masters n name [] [] = Unit {0}
Agree masters n name [] (node ∷ nodes) = ⊥
Agree masters n name (p ∷ ps) [] = ⊥
Agree masters n name (p ∷ ps) (Placed ∷ nodes) = IsIn p masters × Agree masters n name ps nodes
Agree masters n name (p ∷ ps) (Other j ∷ nodes) = (j < n) × (name j ≡ p) × Agree masters n name ps nodes

pub agree-below : (masters : List Name) (n : ℕ) (name : ℕ → Name) (ps : List Name) (nodes : List Node) → Agree masters n name ps nodes → AreBelow n (others_of nodes)
agree-below masters n name [] [] a = tt
agree-below masters n name [] (node ∷ nodes) a = absurd a
agree-below masters n name (p ∷ ps) [] a = absurd a
agree-below masters n name (p ∷ ps) (Placed ∷ nodes) a = agree-below masters n name ps nodes a.1
agree-below masters n name (p ∷ ps) (Other j ∷ nodes) a = (a.0, agree-below masters n name ps nodes a.2)

module _ (rows : List (Row Name)) (masters : List Name) (n : ℕ) (name : ℕ → Name) (nodes : ℕ → List Node)
    (down : IsDown rows) (older : HaveOlderParents nodes)
    (row : (k : ℕ) → k < n → (r : Row Name) × IsIn r rows × (r.name ≡ name k) × Agree masters n name r.parents (nodes k))
    (one : (j k : ℕ) → j < n → k < n → name j ≡ name k → j ≡ k)
    (apart : (k : ℕ) → k < n → IsIn (name k) masters → ⊥) where
  -- a number is placed where its name is
  pub placed-in : (x : ℕ) (order : List ℕ) → x < n → AreBelow n order → is_in same_name (name x) (masters ++ map name order) ≡ is_in nat_eq x order
  placed-in x order lt below = by_test (is_in nat_eq x order) refl
    where
      by_test : (b : Bool) → is_in nat_eq x order ≡ b → is_in same_name (name x) (masters ++ map name order) ≡ b
      by_test true e = there same_name same_name-exact same_name-self (name x) (masters ++ map name order)
          (in-right (name x) masters (map name order) (in-map name x order (found nat_eq same-exact same-self x order e)))
      by_test false e = false_from_ne_true (is_in same_name (name x) (masters ++ map name order)) (λ t.
          ⊎_elim (apart x lt)
          (λ i. let r = map-in-back name (name x) order i in
          missing nat_eq same-exact same-self x order e (subst (λ z. IsIn z order) (sym (one x r.0 lt (below-in n order r.0 below r.1) r.2)) r.1))
          (in-append (name x) masters (map name order) (found same_name same_name-exact same_name-self (name x) (masters ++ map name order) t)))

  -- the same order, by names and by numbers
  abbrev IsSame : List Name → List ℕ → Type 0
  IsSame names numbers = AreBelow n numbers × (names ≡ masters ++ map name numbers)

  abbrev PlacesSame : ℕ → Type 0
  PlacesSame m = (x : ℕ) → x < m → (order : List ℕ) → AreBelow n order → IsSame (place same_name rows (masters ++ map name order) (name x)) (place nat_eq (rows_below nodes n) order x)

  all-same : (m : ℕ) → PlacesSame m → (ps : List Name) (ns : List Node) → Agree masters n name ps ns → AreBelow m (others_of ns) → (order : List ℕ) → AreBelow n order
      → IsSame (place_all same_name rows (masters ++ map name order) ps) (place_all nat_eq (rows_below nodes n) order (others_of ns))
  all-same m rec [] [] a below order h = (h, refl)
  all-same m rec [] (node ∷ ns) a below order h = absurd a
  all-same m rec (p ∷ ps) [] a below order h = absurd a
  all-same m rec (p ∷ ps) (Placed ∷ ns) a below order h =
      let stays : place same_name rows (masters ++ map name order) p ≡ masters ++ map name order =
      place-there same_name same_name-exact same_name-self (λ z. []) rows (masters ++ map name order) p
      (there same_name same_name-exact same_name-self p (masters ++ map name order) (in-left p masters (map name order) a.0)) in
      let rest = all-same m rec ps ns a.1 below order h in
      (rest.0, ap (λ o. place_all same_name rows o ps) stays ∙ rest.1)
  all-same m rec (p ∷ ps) (Other j ∷ ns) a below order h =
      let here = rec j below.0 order h in
      let here_p : place same_name rows (masters ++ map name order) p ≡ masters ++ map name (place nat_eq (rows_below nodes n) order j) =
      ap (place same_name rows (masters ++ map name order)) (sym a.1) ∙ here.1 in
      let rest = all-same m rec ps ns a.2 below.1 (place nat_eq (rows_below nodes n) order j) here.0 in
      (rest.0, ap (λ o. place_all same_name rows o ps) here_p ∙ rest.1)

  behind-same : (x : ℕ) → x < n → (order : List ℕ) → AreBelow n order → is_in nat_eq x order ≡ false
      → ((ps : List Name) → Agree masters n name ps (nodes x) → IsSame (place_all same_name rows (masters ++ map name order) ps) (place_all nat_eq (rows_below nodes n) order (others_of (nodes x))))
      → IsSame (place same_name rows (masters ++ map name order) (name x)) (place nat_eq (rows_below nodes n) order x)
  behind-same x lt order h e all =
      let q = row x lt in
      let r = q.0 in
      let parents = all r.parents q.3 in
      let numbers = number-behind nodes older n x order lt e in
      let new : is_in same_name r.name (masters ++ map name order) ≡ false = ap (λ z. is_in same_name z (masters ++ map name order)) q.2 ∙ placed-in x order lt h ∙ e in (
        subst (AreBelow n) (sym numbers) (below-append n (place_all nat_eq (rows_below nodes n) order (others_of (nodes x))) (x ∷ []) parents.0 (lt, tt)),
        ap (place same_name rows (masters ++ map name order)) (sym q.2)
            ∙ place-behind same_name same_name-exact same_name-self (λ z. []) rows down r q.1 (masters ++ map name order) new
            ∙ ap (λ o. o ++ r.name ∷ []) parents.1
            ∙ ap (λ z. (masters ++ map name (place_all nat_eq (rows_below nodes n) order (others_of (nodes x)))) ++ z ∷ []) q.2
            ∙ append_assoc masters (map name (place_all nat_eq (rows_below nodes n) order (others_of (nodes x)))) (name x ∷ [])
            ∙ ap (λ o. masters ++ o) (sym (map-append name (place_all nat_eq (rows_below nodes n) order (others_of (nodes x))) (x ∷ [])))
            ∙ ap (λ o. masters ++ map name o) (sym numbers),
      )

  there-same : (x : ℕ) → x < n → (order : List ℕ) → AreBelow n order → is_in nat_eq x order ≡ true
      → IsSame (place same_name rows (masters ++ map name order) (name x)) (place nat_eq (rows_below nodes n) order x)
  there-same x lt order h e =
      let numbers = number-there nodes n x order e in (
        subst (AreBelow n) (sym numbers) h,
        place-there same_name same_name-exact same_name-self (λ z. []) rows (masters ++ map name order) (name x) (placed-in x order lt h ∙ e) ∙ ap (λ o. masters ++ map name o) (sym numbers),
      )

  place-same : (m : ℕ) → m ≤ n → PlacesSame m
  place-same zero le x lt order h = absurd (omega (arith, lt))
  place-same (suc m) le x lt order h = by_test (is_in nat_eq x order) refl (place-same m (omega (arith, le)))
    where
      by_test : (b : Bool) → is_in nat_eq x order ≡ b → PlacesSame m → IsSame (place same_name rows (masters ++ map name order) (name x)) (place nat_eq (rows_below nodes n) order x)
      by_test true e rec = there-same x (omega (arith, lt, le)) order h e
      by_test false e rec = behind-same x (omega (arith, lt, le)) order h e
          (λ ps a. all-same m rec ps (nodes x) a (let o = older x in below-more x m (others_of (nodes x)) (omega (arith, lt)) o) order h)

  -- the heads and all that they reach move behind master in one order, by names and by numbers
  pub order-same : (heads : List Name) (at : List Node) → Agree masters n name heads at
      → AreBelow n (order_of nodes n (others_of at)) × (place_all same_name rows masters heads ≡ masters ++ map name (order_of nodes n (others_of at)))
  order-same heads at a =
      let r = all-same n (place-same n (le_refl n)) heads at a (agree-below masters n name heads at a) [] tt in
      (r.0, ap (λ o. place_all same_name rows o heads) (sym (append-nil masters)) ∙ r.1)
