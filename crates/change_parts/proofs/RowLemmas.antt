-- The rows of parents that a table has.
use Rattle.std.proofs.Common.{◌≡◌, ◌<◌, ◌≤◌, ℕ, zero, suc, ◌+◌, ◌-◌, ◌^◌, List, [], ◌∷◌, ◌++◌, map, get_or, Some, ap, ◌∙◌, arith}
use Rattle.std.specs.List.{AllByRecursion}
use Rattle.std.proofs.lemmas.List.{map-append}
use Rattle.id_groups.specs.Id.{other_id}
use Rattle.segment_codec.specs.Record.{Segment}
use Rattle.segment_codec.specs.Table.{IsLawful, segment_at, parents_at}
use Rattle.segment_codec.proofs.Tables.{segment-in, parents-over}
use Rattle.assign_ids.specs.Numbers.{AreBelow}
use Rattle.name_map.specs.Part.{upward}
use Rattle.change_parts.specs.Moves.{node_of, nodes_in}
use Rattle.change_parts.specs.Rows.{table_rows, AreRowsBelow}
use Rattle.change_parts.proofs.Marking.{upward-next}
use Rattle.change_parts.proofs.Growing.{below-parents}
use Rattle.change_parts.proofs.Moving.{map-map, map-below}

-- the rows of a table, one number more
pub table-next : (flats : List Segment) (k : ℕ) → table_rows flats (k + 1) ≡ table_rows flats k ++ parents_at flats (other_id k) ∷ []
table-next flats k = ap (map (λ j. parents_at flats (other_id j))) (upward-next 0 k (k + 1) (omega arith))
    ∙ map-append (λ j. parents_at flats (other_id j)) (upward 0 k) ((0 + k) ∷ [])
    ∙ ap (λ j. table_rows flats k ++ parents_at flats (other_id j) ∷ []) (let z : 0 + k ≡ k = omega arith in z)

-- a number behind k whose id is of the same segment follows the one before
pub follows : (flats : List Segment) → IsLawful flats → (k j : ℕ) (s : Segment) → segment_at flats (other_id k) ≡ Some s → k < j → other_id j ≤ s.high
    → parents_at flats (other_id j) ≡ (other_id j - 1) ∷ []
follows flats lawful k j s e lt le =
    let i = segment-in flats (other_id k) s e in let low = i.1.0 in
    parents-over flats lawful s i.0 (other_id j) (omega (arith, low, lt)) le

-- the segment of an id outside master ends outside master
pub high-other : (flats : List Segment) (k id : ℕ) (s : Segment) → id ≡ other_id k → segment_at flats id ≡ Some s → other_id k ≤ s.high
high-other flats k id s e found = let i = (segment-in flats id s found).1.1 in omega (arith, e, i)

pub nodes-are : (flats : List Segment) (n : ℕ) → map (map node_of) (table_rows flats n) ≡ nodes_in flats n
nodes-are flats n = map-map (map node_of) (λ k. parents_at flats (other_id k)) (upward 0 n)

-- the row of a number
row-behind : (f : ℕ → List ℕ) (first n k : ℕ) → k < n → get_or (map f (upward first n)) k [] ≡ f (first + k)
row-behind f first zero k lt = absurd (omega (arith, lt))
row-behind f first (suc n) zero lt = ap f (let z : first ≡ first + 0 = omega arith in z)
row-behind f first (suc n) (suc k) lt = row-behind f (first + 1) n k (omega (arith, lt)) ∙ ap f (let z : first + 1 + k ≡ first + suc k = omega arith in z)

pub row-of : (flats : List Segment) (n k : ℕ) → k < n → get_or (table_rows flats n) k [] ≡ parents_at flats (other_id k)
row-of flats n k lt = row-behind (λ j. parents_at flats (other_id j)) 0 n k lt ∙ ap (λ j. parents_at flats (other_id j)) (let z : 0 + k ≡ k = omega arith in z)

-- the rows of these numbers are those of the table
pub rows-of : {X : Type 0} (g : List ℕ → X) (flats : List Segment) (n : ℕ) (graph : List (List ℕ)) (ks : List ℕ) → graph ≡ table_rows flats n → AreBelow n ks
    → map (λ k. g (get_or graph k [])) ks ≡ map (λ k. g (parents_at flats (other_id k))) ks
rows-of g flats n graph ks e h =
    map-below (λ k. g (get_or graph k [])) (λ k. g (parents_at flats (other_id k))) n ks h
    (λ k lt. ap g (ap (λ (l : List (List ℕ)). get_or l k []) e ∙ row-of flats n k lt))

rows-below : (flats : List Segment) → IsLawful flats → (n : ℕ) (ks : List ℕ) → AreBelow n ks → AreRowsBelow n (map (λ k. parents_at flats (other_id k)) ks)
rows-below flats lawful n [] h = tt
rows-below flats lawful n (k ∷ ks) h = (below-parents flats lawful k n h.0, rows-below flats lawful n ks h.1)

pub table-below : (flats : List Segment) → IsLawful flats → (n : ℕ) → AreRowsBelow n (table_rows flats n)
table-below flats lawful n = rows-below flats lawful n (upward 0 n) (upward-all 0 n n (omega arith))
  where
    upward-all : (first m end : ℕ) → first + m ≤ end → AreBelow end (upward first m)
    upward-all first zero end le = tt
    upward-all first (suc m) end le = (omega (arith, le), upward-all (first + 1) m end (omega (arith, le)))

pub row-below : (n k : ℕ) (rows : List (List ℕ)) → AreRowsBelow n rows → AllByRecursion (λ p. p < 2 ^ 56 + n) (get_or rows k [])
row-below n k [] h = tt
row-below n zero (r ∷ rows) h = h.0
row-below n (suc k) (r ∷ rows) h = row-below n k rows h.1
