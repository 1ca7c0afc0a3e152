-- Names and ids of a world, and whether a row has the parents that an add gives.
use Rattle.std.proofs.Common.{◌≡◌, ◌<◌, ◌≤◌, ◌^◌, ℕ, ◌⊎◌, inl, inr, Bool, true, false, ◌&&◌, List, [], ◌∷◌, length, map, nat_eq, Option, Some, None, slice_get, is_some, refl, sym, ap, ap₂, subst, ◌∙◌, ⊎_elim, arith, true≢false, if◌then◌else◌, lit≤}
use Rattle.std.specs.List.{AllByRecursion}
use Rattle.std.specs.Cmp.Lexicographic.{pointwise}
use Rattle.std.proofs.lemmas.List.{map-append}
use Rattle.std.proofs.lemmas.Bool.{ne_eqb}
use Rattle.id_groups.specs.Lists.{IsIn, AreAllIn, AreDistinct}
use Rattle.id_groups.specs.Name.{Name, same_name}
use Rattle.id_groups.specs.Id.{other_id}
use Rattle.id_groups.proofs.Names.{same_name-exact, same_name-self}
use Rattle.commit_graph.specs.World.{Row, World, IsWorld, names_of, rows_of, row_named}
use Rattle.commit_graph.specs.Ids.{id_in}
use Rattle.commit_graph.proofs.Histories.{in-append, in-all}
use Rattle.commit_graph.proofs.Places.{IsFound, at-name, id-in-master, id-in-others, master-found, others-found}
use Rattle.segment_codec.specs.Record.{Segment}
use Rattle.segment_codec.specs.Table.{parents_at}
use Rattle.change_rules.specs.Rebase.{has_parents}
use Rattle.payload_tables.specs.Bases.{AreSegmentsOf}
use Rattle.payload_tables.proofs.Lists.{get-below, parents-known, same-self}
use Rattle.change_parts.proofs.Renumber.{map-in-back}

module _ (v : World Name) (whole : IsWorld v) (small : length v.master ≤ 16777216) where
  abbrev id : Name → ℕ
  id = id_in same_name v

  abbrev Known : Name → Type 0
  Known x = IsIn x (names_of (rows_of v))

  abbrev IsPlaced : Name → Type 0
  IsPlaced x = ((i : ℕ) × (r : Row Name) × (slice_get v.master i ≡ Some r) × (r.name ≡ x) × (id_in same_name v x ≡ i)) ⊎ ((i : ℕ) × (r : Row Name) × (slice_get v.others i ≡ Some r) × (r.name ≡ x) × (id_in same_name v x ≡ other_id i))

  placed : (x : Name) → IsIn x (names_of (rows_of v)) → IsPlaced x
  placed x i = ⊎_elim
      (λ j. let t = at-name v.master x j in inl (t.0, t.1, t.2, t.3, ap (id_in same_name v) (sym t.3) ∙ id-in-master same_name same_name-exact same_name-self v whole t.0 t.1 t.2))
      (λ j. let t = at-name v.others x j in inr (t.0, t.1, t.2, t.3, ap (id_in same_name v) (sym t.3) ∙ id-in-others same_name same_name-exact same_name-self v whole t.0 t.1 t.2))
      (in-append x (names_of v.master) (names_of v.others) (subst (IsIn x) (map-append (λ (r : Row Name). r.name) v.master v.others) i))

  same-row-name : (xs : List (Row Name)) (i j : ℕ) (r q : Row Name) → i ≡ j → slice_get xs i ≡ Some r → slice_get xs j ≡ Some q → r.name ≡ q.name
  same-row-name xs i j r q e a b = ap (name_or r) (sym a ∙ ap (slice_get xs) e ∙ b)
    where
      name_or : Row Name → Option (Row Name) → Name
      name_or d None = d.name
      name_or d (Some x) = x.name

  -- an id is that of one name
  pub one-id : (x y : Name) → IsIn x (names_of (rows_of v)) → IsIn y (names_of (rows_of v)) → id_in same_name v x ≡ id_in same_name v y → x ≡ y
  one-id x y i j e = by_place (placed x i) (placed y j)
    where
      by_place : IsPlaced x → IsPlaced y → x ≡ y
      by_place (inl a) (inl b) = sym a.3 ∙ same-row-name v.master a.0 b.0 a.1 b.1 (sym a.4 ∙ e ∙ b.4) a.2 b.2 ∙ b.3
      by_place (inl a) (inr b) = let f = a.4 in let g = b.4 in let l = get-below v.master a.0 a.1 a.2 in let k : 16777216 ≤ 2 ^ 56 = lit≤ tt in absurd (let z : ⊥ = omega (arith, f, g, e, l, small, k) in z)
      by_place (inr a) (inl b) = let f = a.4 in let g = b.4 in let l = get-below v.master b.0 b.1 b.2 in let k : 16777216 ≤ 2 ^ 56 = lit≤ tt in absurd (let z : ⊥ = omega (arith, f, g, e, l, small, k) in z)
      by_place (inr a) (inr b) = let f = a.4 in let g = b.4 in sym a.3 ∙ same-row-name v.others a.0 b.0 a.1 b.1 (omega (arith, f, g, e)) a.2 b.2 ∙ b.3

  -- it is one of the master ids, or of the others
  pub id-parts : (x : Name) → IsIn x (names_of (rows_of v)) → (id_in same_name v x < length v.master) ⊎ (2 ^ 56 ≤ id_in same_name v x)
  id-parts x i = ⊎_elim
      (λ a. let e = a.4 in let l = get-below v.master a.0 a.1 a.2 in inl (omega (arith, e, l)))
      (λ a. let e = a.4 in inr (omega (arith, e))) (placed x i)

  pub id-below : (x : Name) → IsIn x (names_of (rows_of v)) → id_in same_name v x < other_id (length v.others)
  id-below x i = ⊎_elim
      (λ a. let e = a.4 in let l = get-below v.master a.0 a.1 a.2 in let k : 16777216 ≤ 2 ^ 56 = lit≤ tt in omega (arith, e, l, small, k))
      (λ a. let e = a.4 in let l = get-below v.others a.0 a.1 a.2 in omega (arith, e, l)) (placed x i)

  pub ids-below : (xs : List Name) → AreAllIn xs (names_of (rows_of v)) → AllByRecursion (λ p. p < other_id (length v.others)) (map (id_in same_name v) xs)
  ids-below [] h = tt
  ids-below (x ∷ xs) h = (id-below x h.0, ids-below xs h.1)

  pub ids-parts : (xs : List Name) → AreAllIn xs (names_of (rows_of v)) → AllByRecursion (λ p. (p < length v.master) ⊎ (2 ^ 56 ≤ p)) (map (id_in same_name v) xs)
  ids-parts [] h = tt
  ids-parts (x ∷ xs) h = (id-parts x h.0, ids-parts xs h.1)

  pub ids-distinct : (xs : List Name) → AreAllIn xs (names_of (rows_of v)) → AreDistinct xs → AreDistinct (map (id_in same_name v) xs)
  ids-distinct [] h d = tt
  ids-distinct (x ∷ xs) h d = (
    (λ i. let r = map-in-back (id_in same_name v) (id_in same_name v x) xs i in d.0 (subst (λ z. IsIn z xs) (sym (one-id x r.0 h.0 (in-all r.0 xs (names_of (rows_of v)) r.1 h.1) r.2)) r.1)),
    ids-distinct xs h.1 d.1,
  )

  same-tests : (x y : Name) → IsIn x (names_of (rows_of v)) → IsIn y (names_of (rows_of v)) → nat_eq (id_in same_name v x) (id_in same_name v y) ≡ same_name x y
  same-tests x y i j = by_test (same_name x y) refl
    where
      by_test : (b : Bool) → same_name x y ≡ b → nat_eq (id_in same_name v x) (id_in same_name v y) ≡ same_name x y
      by_test true e = ap (λ z. nat_eq (id_in same_name v x) (id_in same_name v z)) (sym (same_name-exact x y e)) ∙ same-self (id_in same_name v x) ∙ sym e
      by_test false e = ne_eqb (id_in same_name v x) (id_in same_name v y) (λ f. true≢false (sym (ap (λ z. same_name x z) (sym (one-id x y i j f)) ∙ same_name-self x) ∙ e)) ∙ sym e

  mapped-tests : (xs ys : List Name) → AreAllIn xs (names_of (rows_of v)) → AreAllIn ys (names_of (rows_of v)) → pointwise nat_eq (map (id_in same_name v) xs) (map (id_in same_name v) ys) ≡ pointwise same_name xs ys
  mapped-tests [] [] h g = refl
  mapped-tests [] (y ∷ ys) h g = refl
  mapped-tests (x ∷ xs) [] h g = refl
  mapped-tests (x ∷ xs) (y ∷ ys) h g = ap₂ (λ a b. a && b) (same-tests x y h.0 g.0) (mapped-tests xs ys h.1 g.1)

  found-at : (x : Name) → IsIn x (names_of (rows_of v)) → IsFound same_name v x (id_in same_name v x)
  found-at x i = ⊎_elim
      (λ a. subst (λ n. IsFound same_name v x n) (sym a.4) (subst (λ z. IsFound same_name v z a.0) a.3 (master-found same_name same_name-exact same_name-self v whole (let k : 16777216 ≤ 2 ^ 32 = lit≤ tt in omega (arith, small, k)) a.0 a.1 a.2)))
      (λ a. subst (λ n. IsFound same_name v x n) (sym a.4) (subst (λ z. IsFound same_name v z (other_id a.0)) a.3 (others-found same_name same_name-exact same_name-self v whole a.0 a.1 a.2)))
      (placed x i)

  row-in : (x : Name) (r : Row Name) → row_named same_name (rows_of v) x ≡ Some r → IsIn r (rows_of v)
  row-in x r e = go (rows_of v) e
    where
      go : (rows : List (Row Name)) → row_named same_name rows x ≡ Some r → IsIn r rows
      go [] e = absurd (true≢false (sym (ap is_some e)))
      go (q ∷ rows) e = by_test (same_name q.name x) e (go rows)
        where
          row_or : Option (Row Name) → Row Name
          row_or None = r
          row_or (Some a) = a

          by_test : (b : Bool) → (if b then Some q else row_named same_name rows x) ≡ Some r → (row_named same_name rows x ≡ Some r → IsIn r rows) → IsIn r (q ∷ rows)
          by_test true f rec = inl (sym (ap row_or f))
          by_test false f rec = inr (rec f)

  -- whether a row has these parents, by their ids in the segments
  pub row-parents-same : (flats : List Segment) → AreSegmentsOf v flats → (name : Name) → IsIn name (names_of (rows_of v)) → (parents : List Name) → AreAllIn parents (names_of (rows_of v))
      → pointwise nat_eq (parents_at flats (id_in same_name v name)) (map (id_in same_name v) parents) ≡ has_parents same_name (row_named same_name (rows_of v) name) parents
  row-parents-same flats segs name i parents known =
      let f = found-at name i in
      let r = f.row.0 in
      let there : row_named same_name (rows_of v) name ≡ Some r = sym f.named ∙ f.row.1 in
      ap (λ l. pointwise nat_eq l (map (id_in same_name v) parents)) (segs.parents (id_in same_name v name) r f.row.1)
      ∙ mapped-tests r.parents parents (parents-known [] (rows_of v) whole r (row-in name r there)) known
      ∙ sym (ap (λ o. has_parents same_name o parents) there)
