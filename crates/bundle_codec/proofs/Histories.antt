-- The rows of a bundle are the master of a world.
use Rattle.std.proofs.Common.{◌≡◌, ℕ, zero, suc, ◌+◌, ◌-◌, ◌<◌, ◌≤◌, List, [], ◌∷◌, ◌++◌, length, map, refl, sym, ap, subst, ◌∙◌, arith, inl, inr, append_assoc, length-append}
use Rattle.std.specs.Prelude.{slice_index_or}
use Rattle.std.specs.List.{AllByRecursion}
use Rattle.std.proofs.lemmas.List.{length-map}
use Rattle.id_groups.specs.Lists.{IsIn, AreAllIn, AreDistinct}
use Rattle.id_groups.specs.Name.{Name}
use Rattle.commit_graph.specs.World.{IsHistory}
use Rattle.segment_codec.specs.Record.{Segment, HasLevelsParents}
use Rattle.segment_codec.specs.Table.{Follow}
use Rattle.segment_rules.specs.Flat.{followers, segment_parents, parents_listed}
use Rattle.batch_codec.specs.Grammar.{AreFlat}
use Rattle.bundle_codec.specs.Bundle.{rows_by}

-- the parents of a row with this number
pub record MayBelow (k : ℕ) (ids : List ℕ) : Type 0 where
  pub below : AllByRecursion (λ id. id < k) ids
  pub distinct : AreDistinct ids
  pub few : length ids ≤ 8

-- those of rows from this number on
abbrev pub AllBelow : ℕ → List (List ℕ) → Type 0
AllBelow k [] = Unit {0}
AllBelow k (ids ∷ more) = MayBelow k ids × AllBelow (k + 1) more

join-below : (k n : ℕ) (xs ys : List (List ℕ)) → AllBelow k xs → n ≡ k + length xs → AllBelow n ys → AllBelow k (xs ++ ys)
join-below k n [] ys h e g = subst (λ (m : ℕ). AllBelow m ys) (let z : n ≡ k = omega (arith, e) in z) g
join-below k n (x ∷ xs) ys h e g = (h.0, join-below (k + 1) n xs ys h.1 (omega (arith, e)) g)

followers-below : (id n : ℕ) → AllBelow (id + 1) (followers id n)
followers-below id zero = tt
followers-below id (suc n) = (record { below = (omega arith, tt); distinct = ((λ i. i), tt); few = omega arith }, followers-below (id + 1) n)

followers-long : (id n : ℕ) → length (followers id n) ≡ n
followers-long id zero = refl
followers-long id (suc n) = ap suc (followers-long (id + 1) n)

pub listed-below : (first end : ℕ) (ss : List Segment) → Follow first end ss → AreFlat ss → AllBelow first (parents_listed ss)
listed-below first end [] f h = tt
listed-below first end (s ∷ ss) f h =
    let low = f.0 in let order = f.1 in
    let own : MayBelow s.low s.parents = record { below = h.0.0.below; distinct = h.0.0.distinct; few = subst (λ (n : ℕ). HasLevelsParents n s.parents) h.0.1 h.0.0.level_parents } in
    let len = followers-long s.low (s.high - s.low) in
    subst (λ (n : ℕ). AllBelow n (parents_listed (s ∷ ss))) low
    (join-below s.low (s.high + 1) (segment_parents s) (parents_listed ss) (own, followers-below s.low (s.high - s.low)) (omega (arith, len, low, order)) (listed-below (s.high + 1) end ss f.2 h.1))

-- ---- names at ids

at-in : (names : List Name) (id : ℕ) → id < length names → IsIn (slice_index_or names id []) names
at-in [] id lt = absurd (omega (arith, lt))
at-in (x ∷ names) zero lt = inl refl
at-in (x ∷ names) (suc id) lt = inr (at-in names id (omega (arith, lt)))

at-front : (xs ys : List Name) (id : ℕ) → id < length xs → slice_index_or (xs ++ ys) id [] ≡ slice_index_or xs id []
at-front [] ys id lt = absurd (omega (arith, lt))
at-front (x ∷ xs) ys zero lt = refl
at-front (x ∷ xs) ys (suc id) lt = at-front xs ys id (omega (arith, lt))

at-one : (names : List Name) (i j : ℕ) → AreDistinct names → i < length names → j < length names → slice_index_or names i [] ≡ slice_index_or names j [] → i ≡ j
at-one [] i j d li lj e = absurd (omega (arith, li))
at-one (x ∷ names) zero zero d li lj e = refl
at-one (x ∷ names) zero (suc j) d li lj e = absurd (d.0 (subst (λ (z : Name). IsIn z names) (sym e) (at-in names j (omega (arith, lj)))))
at-one (x ∷ names) (suc i) zero d li lj e = absurd (d.0 (subst (λ (z : Name). IsIn z names) e (at-in names i (omega (arith, li)))))
at-one (x ∷ names) (suc i) (suc j) d li lj e = ap suc (at-one names i j d.1 (omega (arith, li)) (omega (arith, lj)) e)

front-distinct : (xs ys : List Name) → AreDistinct (xs ++ ys) → AreDistinct xs
front-distinct [] ys d = tt
front-distinct (x ∷ xs) ys d = ((λ i. d.0 (in-front xs ys x i)), front-distinct xs ys d.1)
  where
    in-front : (us bs : List Name) (x : Name) → IsIn x us → IsIn x (us ++ bs)
    in-front [] bs x i = absurd i
    in-front (a ∷ us) bs x (inl e) = inl e
    in-front (a ∷ us) bs x (inr i) = inr (in-front us bs x i)

apart : (xs ys : List Name) (y : Name) → AreDistinct (xs ++ y ∷ ys) → IsIn y xs → ⊥
apart [] ys y d i = i
apart (x ∷ xs) ys y d (inl e) = d.0 (behind xs ys y x e)
  where
    behind : (us bs : List Name) (y x : Name) → y ≡ x → IsIn x (us ++ y ∷ bs)
    behind [] bs y x e = inl (sym e)
    behind (a ∷ us) bs y x e = inr (behind us bs y x e)
apart (x ∷ xs) ys y d (inr i) = apart xs ys y d.1 i

module _ (all before rest : List Name) (parts : all ≡ before ++ rest) (apart_all : AreDistinct all) where
  named : (id : ℕ) → id < length before → slice_index_or all id [] ≡ slice_index_or before id []
  named id lt = ap (λ (l : List Name). slice_index_or l id []) parts ∙ at-front before rest id lt

  known : (ids : List ℕ) → AllByRecursion (λ id. id < length before) ids → AreAllIn (map (λ id. slice_index_or all id []) ids) before
  known [] h = tt
  known (id ∷ ids) h = (subst (λ (z : Name). IsIn z before) (sym (named id h.0)) (at-in before id h.0), known ids h.1)

  not-there : (id : ℕ) (ids : List ℕ) → id < length before → AllByRecursion (λ x. x < length before) ids → (IsIn id ids → ⊥)
      → IsIn (slice_index_or all id []) (map (λ x. slice_index_or all x []) ids) → ⊥
  not-there id [] lt h never i = i
  not-there id (x ∷ ids) lt h never (inl e) =
      never (inl (at-one before id x (front-distinct before rest (subst AreDistinct parts apart_all)) lt h.0 (sym (named id lt) ∙ e ∙ named x h.0)))
  not-there id (x ∷ ids) lt h never (inr i) = not-there id ids lt h.1 (λ j. never (inr j)) i

  distinct : (ids : List ℕ) → AllByRecursion (λ id. id < length before) ids → AreDistinct ids → AreDistinct (map (λ id. slice_index_or all id []) ids)
  distinct [] h d = tt
  distinct (id ∷ ids) h d = (not-there id ids h.0 h.1 d.0, distinct ids h.1 d.1)

-- each row may stand behind those before it
pub rows-history : (all before names : List Name) (parents : List (List ℕ)) → all ≡ before ++ names → AreDistinct all → AllBelow (length before) parents → IsHistory before (rows_by all names parents)
rows-history all before [] parents e d h = tt
rows-history all before (name ∷ names) [] e d h = tt
rows-history all before (name ∷ names) (ids ∷ parents) e d h = (
  record {
    fresh = apart before names name (subst AreDistinct e d);
    known = known all before (name ∷ names) e d ids h.0.below;
    distinct = distinct all before (name ∷ names) e d ids h.0.below h.0.distinct;
    few = let len = length-map ids (λ (id : ℕ). slice_index_or all id []) in let few = h.0.few in omega (arith, len, few);
  },
  rows-history all (before ++ name ∷ []) names parents (e ∙ sym (append_assoc before (name ∷ []) names)) d
      (subst (λ (n : ℕ). AllBelow n parents) (let l = length-append before (name ∷ []) in let z : length before + 1 ≡ length (before ++ name ∷ []) = omega (arith, l) in z) h.1),
)
