-- Rows of parents at their places in one list.
use Rattle.std.proofs.Common.{◌≡◌, ◌<◌, ◌≤◌, ℕ, zero, suc, ◌+◌, ◌-◌, ◌^◌, List, [], ◌∷◌, ◌++◌, length, map, take, drop, get_or, Some, None, refl, sym, ap, ap₂, subst, ◌∙◌, arith, length-append, drop_at}
use Rattle.std.specs.List.{AllByRecursion}
use Rattle.std.proofs.lemmas.List.{map-append, take_all}
use Rattle.id_groups.specs.Id.{other_id}
use Rattle.segment_codec.specs.Record.{Segment}
use Rattle.segment_codec.specs.Table.{IsLawful, segment_at, parents_in, parents_at}
use Rattle.assign_ids.specs.declared.graph.Node.{Node}
use Rattle.payload_tables.proofs.Lists.{all-append}
use Rattle.flush_plan.specs.declared.graph.Place.{Place}
use Rattle.change_parts.specs.Moves.{node_of}
use Rattle.change_parts.specs.Rows.{table_rows, AreSmall}
use Rattle.flush_plan.specs.Places.{row_at, node_row_at, IsPlaceIn, AreRows}
use Rattle.change_parts.proofs.Marking.{small-parents}
use Rattle.change_parts.proofs.RowLemmas.{table-next, follows}

take-front : (xs ys : List ℕ) (n : ℕ) → n ≤ length xs → take n (xs ++ ys) ≡ take n xs
take-front xs ys zero le = refl
take-front [] ys (suc n) le = absurd (omega (arith, le))
take-front (x ∷ xs) ys (suc n) le = ap (λ l. x ∷ l) (take-front xs ys n (omega (arith, le)))

piece-front : (xs ys : List ℕ) (i n : ℕ) → i + n ≤ length xs → take n (drop i (xs ++ ys)) ≡ take n (drop i xs)
piece-front xs ys zero n le = take-front xs ys n (omega (arith, le))
piece-front [] ys (suc i) n le = absurd (omega (arith, le))
piece-front (x ∷ xs) ys (suc i) n le = piece-front xs ys i n (omega (arith, le))

-- more behind the list changes none of its rows
same-rows : (places : List Place) (ids more : List ℕ) → AllByRecursion (IsPlaceIn (length ids)) places → map (row_at (ids ++ more)) places ≡ map (row_at ids) places
same-rows [] ids more h = refl
same-rows (p ∷ places) ids more h =
    ap₂ (λ a b. a ∷ b) (let a = h.0.0 in let b = h.0.1 in piece-front ids more p.from (p.to - p.from) (omega (arith, a, b))) (same-rows places ids more h.1)

more-places : (places : List Place) (n m : ℕ) → n ≤ m → AllByRecursion (IsPlaceIn n) places → AllByRecursion (IsPlaceIn m) places
more-places [] n m le h = tt
more-places (p ∷ places) n m le h = ((h.0.0, let b = h.0.1 in omega (arith, b, le)), more-places places n m le h.1)

-- the last row
last-row : (ids ps : List ℕ) (start end : ℕ) → start ≡ length ids → end ≡ length (ids ++ ps) → row_at (ids ++ ps) (record { from = start; to = end }) ≡ ps
last-row ids ps start end s e =
    ap (take (end - start)) (drop_at ids ps start (sym s))
    ∙ take_all (end - start) ps (let l = length-append ids ps in omega (arith, l, s, e))

pub put-row : (places places2 : List Place) (ids ids2 ps : List ℕ) (list : List (List ℕ)) (start end : ℕ) → AreRows places ids list → AreSmall ps
    → ids2 ≡ ids ++ ps → places2 ≡ places ++ record { from = start; to = end } ∷ [] → start ≡ length ids → end ≡ length ids2
    → AreRows places2 ids2 (list ++ ps ∷ [])
put-row places places2 ids ids2 ps list start end are small i p s e = record {
  rows_are = ap₂ (λ a b. map (row_at a) b) i p ∙ map-append (row_at (ids ++ ps)) places (record { from = start; to = end } ∷ [])
      ∙ ap₂ {C = List (List ℕ)} (λ a b. a ++ b ∷ []) (same-rows places ids ps are.places_in ∙ are.rows_are) (last-row ids ps start end s long);
  places_in = subst (λ n. AllByRecursion (IsPlaceIn n) places2) (sym (ap (length {A = ℕ}) i))
      (subst (AllByRecursion (IsPlaceIn (length (ids ++ ps)))) (sym p)
      (all-append (IsPlaceIn (length (ids ++ ps))) places (record { from = start; to = end } ∷ [])
      (more-places places (length ids) (length (ids ++ ps)) (let l = length-append ids ps in omega (arith, l)) are.places_in)
      ((let l = length-append ids ps in (omega (arith, l, s, long), omega (arith, long))), tt)));
  small = subst AreSmall (sym i) (all-append (λ id. id < 2 ^ 56 + 2 ^ 32) ids ps are.small small);
}
  where
    long : end ≡ length (ids ++ ps)
    long = e ∙ ap (length {A = ℕ}) i

pub no-rows : (places : List Place) (ids : List ℕ) → places ≡ [] → ids ≡ [] → AreRows places ids []
no-rows places ids p i = record {
  rows_are = ap (map (row_at ids)) p;
  places_in = subst (AllByRecursion (IsPlaceIn (length ids))) (sym p) tt;
  small = subst AreSmall (sym i) tt;
}

-- the row of the next number is read: it is among those of the table
pub table-row : (flats : List Segment) (k : ℕ) (places : List Place) (ids row : List ℕ) → parents_at flats (other_id k) ≡ row
    → AreRows places ids (table_rows flats k ++ row ∷ []) → AreRows places ids (table_rows flats (k + 1))
table-row flats k places ids row e are = subst (AreRows places ids) (ap (λ r. table_rows flats k ++ r ∷ []) (sym e) ∙ sym (table-next flats k)) are

-- the row of the first number that is read of a segment
pub first-row : (flats : List Segment) → IsLawful flats → (k id : ℕ) (s : Segment) (places : List Place) (ids : List ℕ) → k < 2 ^ 32 → id ≡ other_id k → segment_at flats id ≡ Some s
    → (AreSmall (parents_in (Some s) id) → AreRows places ids (table_rows flats k ++ parents_in (Some s) id ∷ [])) → AreRows places ids (table_rows flats (k + 1))
first-row flats lawful k id s places ids lt e found h =
    let is : parents_at flats (other_id k) ≡ parents_in (Some s) id = ap (parents_at flats) (sym e) ∙ ap (λ o. parents_in o id) found in
    table-row flats k places ids (parents_in (Some s) id) is (h (subst AreSmall is (small-parents flats lawful k lt)))

-- the row of a number without a segment
pub root-row : (flats : List Segment) (k id : ℕ) (places : List Place) (ids : List ℕ) → id ≡ other_id k → segment_at flats id ≡ None
    → AreRows places ids (table_rows flats k ++ [] ∷ []) → AreRows places ids (table_rows flats (k + 1))
root-row flats k id places ids e none are = table-row flats k places ids [] (ap (parents_at flats) (sym e) ∙ ap (λ o. parents_in o id) none) are

-- the row of a number behind it
pub next-row : (flats : List Segment) → IsLawful flats → (k id : ℕ) (s : Segment) (j parent : ℕ) (places : List Place) (ids : List ℕ) → id ≡ other_id k → segment_at flats id ≡ Some s
    → k < j → 2 ^ 56 + j ≤ s.high → j < 2 ^ 32 → parent + 1 ≡ other_id j
    → (AreSmall (parent ∷ []) → AreRows places ids (table_rows flats j ++ (parent ∷ []) ∷ [])) → AreRows places ids (table_rows flats (j + 1))
next-row flats lawful k id s j parent places ids e found lt le few p h =
    table-row flats j places ids (parent ∷ [])
    (follows flats lawful k j s (ap (segment_at flats) (sym e) ∙ found) lt le ∙ ap (λ x. x ∷ []) (let z : other_id j - 1 ≡ parent = omega (arith, p) in z))
    (h ((omega (arith, p, few), tt)))

-- a row by its place
pub row-at : (places : List Place) (ids : List ℕ) (k : ℕ) → row_at ids (get_or places k (record { from = 0; to = 0 })) ≡ get_or (map (row_at ids) places) k []
row-at [] ids k = refl
row-at (p ∷ places) ids zero = refl
row-at (p ∷ places) ids (suc k) = row-at places ids k

pub place-in : (places : List Place) (n k : ℕ) → AllByRecursion (IsPlaceIn n) places → IsPlaceIn n (get_or places k (record { from = 0; to = 0 }))
place-in [] n k h = (omega arith, omega arith)
place-in (p ∷ places) n zero h = h.0
place-in (p ∷ places) n (suc k) h = place-in places n k h.1

map-piece : (ids : List ℕ) (i n : ℕ) → take n (drop i (map node_of ids)) ≡ map node_of (take n (drop i ids))
map-piece [] zero zero = refl
map-piece [] zero (suc n) = refl
map-piece [] (suc i) zero = refl
map-piece [] (suc i) (suc n) = refl
map-piece (x ∷ ids) zero zero = refl
map-piece (x ∷ ids) zero (suc n) = ap (λ l. node_of x ∷ l) (map-piece ids 0 n)
map-piece (x ∷ ids) (suc i) n = map-piece ids i n

-- the rows of the nodes of a list are the nodes of its rows
pub node-rows : (places : List Place) (ids : List ℕ) → map (node_row_at (map node_of ids)) places ≡ map (map node_of) (map (row_at ids) places)
node-rows [] ids = refl
node-rows (p ∷ places) ids = ap₂ (λ a b. a ∷ b) (map-piece ids p.from (p.to - p.from)) (node-rows places ids)

-- a row of nodes by its place
pub node-row-at : (places : List Place) (nodes : List Node) (k : ℕ) → node_row_at nodes (get_or places k (record { from = 0; to = 0 })) ≡ get_or (map (node_row_at nodes) places) k []
node-row-at [] nodes k = refl
node-row-at (p ∷ places) nodes zero = refl
node-row-at (p ∷ places) nodes (suc k) = node-row-at places nodes k
