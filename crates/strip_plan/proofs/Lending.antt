-- Rows that are lent, one number after another.
use Rattle.std.proofs.Common.{◌≡◌, ◌<◌, ◌≤◌, ℕ, zero, suc, ◌+◌, ◌^◌, Bool, true, false, ◌&&◌, List, [], ◌∷◌, ◌++◌, length, map, get_or, nat_eq, refl, sym, ap, ap₂, subst, Some, None, ◌∙◌, append_assoc, length-append, arith}
use Rattle.std.specs.Cmp.Lexicographic.{pointwise}
use Rattle.std.specs.List.{AllByRecursion, list_any}
use Rattle.std.proofs.lemmas.Bool.{ne_eqb}
use Rattle.std.proofs.lemmas.Bool.Decides.{nat_tests}
use Rattle.std.proofs.lemmas.List.{map-append}
use Rattle.id_groups.specs.Id.{is_master_id, other_id}
use Rattle.segment_codec.specs.Record.{Segment}
use Rattle.segment_codec.specs.Table.{IsLawful, segment_at, parents_in, parents_at}
use Rattle.batch_codec.specs.Payload.{Payload}
use Rattle.batch_codec.specs.Building.{Building, IsBuilt, with_other_segment}
use Rattle.strip_plan.specs.declared.lent.Row.{Row}
use Rattle.strip_plan.specs.declared.lent.Row.TheVariants.{Root, Follows}
use Rattle.strip_plan.specs.LentRows.{lent_row, lent_rows, AreLent}
use Rattle.id_groups.specs.declared.id.Group.TheVariants.{Others}
use Rattle.change_parts.specs.Flat.{Span}
use Rattle.change_parts.specs.Sections.{with_spans}
use Rattle.strip_plan.specs.Stripping.{is_marked}
use Rattle.change_parts.specs.Moves.{flat_record, new_id}
use Rattle.change_parts.proofs.RowLemmas.{table-next, follows}

-- a row by its number
pub lent-at : (first k m : ℕ) (rows : List Row) → m ≡ first + k → lent_row m (get_or rows k Root) ≡ get_or (lent_rows first rows) k []
lent-at first k m [] e = refl
lent-at first zero m (row ∷ rows) e = ap (λ n. lent_row n row) (let z : m ≡ first = omega (arith, e) in z)
lent-at first (suc k) m (row ∷ rows) e = lent-at (first + 1) k m rows (omega (arith, e))

-- one row more
lent-more : (first : ℕ) (rows : List Row) (row : Row) → lent_rows first (rows ++ row ∷ []) ≡ lent_rows first rows ++ lent_row (first + length rows) row ∷ []
lent-more first [] row = ap (λ n. lent_row n row ∷ []) (let z : first ≡ first + 0 = omega arith in z)
lent-more first (r ∷ rows) row = ap (λ l. lent_row first r ∷ l) (lent-more (first + 1) rows row ∙ ap (λ n. lent_rows (first + 1) rows ++ lent_row n row ∷ []) (let z : first + 1 + length rows ≡ first + suc (length rows) = omega arith in z))

pub lent-next : (flats : List Segment) (rows : List Row) (k : ℕ) (row : Row) → lent_row k row ≡ parents_at flats (other_id k) → AreLent flats rows k → AreLent flats (rows ++ row ∷ []) (k + 1)
lent-next flats rows k row e are = record {
  long = let l = length-append rows (row ∷ []) in let h = are.long in omega (arith, l, h);
  rows_are = lent-more 0 rows row
      ∙ ap₂ (λ a b. a ++ b ∷ []) are.rows_are (ap (λ n. lent_row n row) (let z : 0 + length rows ≡ k = (let h = are.long in omega (arith, h)) in z) ∙ e)
      ∙ sym (table-next flats k);
}

-- the row of a number without a segment, of the first number that is read of one, and of a number behind it
pub root-lent : (flats : List Segment) (k id : ℕ) → id ≡ other_id k → segment_at flats id ≡ None → [] ≡ parents_at flats (other_id k)
root-lent flats k id e none = ap (λ o. parents_in o id) (sym none) ∙ ap (parents_at flats) e

pub first-lent : (flats : List Segment) (k id : ℕ) (s : Segment) (row : Row) → id ≡ other_id k → segment_at flats id ≡ Some s → lent_row k row ≡ parents_in (Some s) id → lent_row k row ≡ parents_at flats (other_id k)
first-lent flats k id s row e found is = is ∙ ap (λ o. parents_in o id) (sym found) ∙ ap (parents_at flats) e

pub next-lent : (flats : List Segment) → IsLawful flats → (k id : ℕ) (s : Segment) (j : ℕ) → id ≡ other_id k → segment_at flats id ≡ Some s → k < j → other_id j ≤ s.high → lent_row j Follows ≡ parents_at flats (other_id j)
next-lent flats lawful k id s j e found lt le = sym (follows flats lawful k j s (ap (segment_at flats) (sym e) ∙ found) lt le)

-- ---- parents that are all of master

master-id : (p : ℕ) → p < 2 ^ 56 → is_master_id p ≡ true
master-id p lt = grind (arith, nat_tests)

pub masters-stay : (ids ps : List ℕ) → AllByRecursion (λ p. p < 2 ^ 56) ps → map (new_id ids) ps ≡ ps
masters-stay ids [] h = refl
masters-stay ids (p ∷ ps) h = ap₂ (λ a b. a ∷ b) (let m = master-id p h.0 in rw m refl) (masters-stay ids ps h.1)

-- none of them is marked
pub none-marked : (marks : List Bool) (ps : List ℕ) → AllByRecursion (λ p. p < 2 ^ 56) ps → false ≡ list_any (is_marked marks) ps
none-marked marks [] h = refl
none-marked marks (p ∷ ps) h = let m = master-id p h.0 in rw m (none-marked marks ps h.1)

-- no other id is the only one of them
pub masters-apart : (ps : List ℕ) (high : ℕ) → 2 ^ 56 ≤ high → AllByRecursion (λ p. p < 2 ^ 56) ps → pointwise nat_eq ps (high ∷ []) ≡ false
masters-apart [] high le h = refl
masters-apart (p ∷ []) high le h = let lt = h.0 in ap (λ b. b && true) (ne_eqb p high (λ e. let z : ⊥ = omega (arith, e, lt, le) in z))
masters-apart (p ∷ q ∷ ps) high le h = let lt = h.0 in ap (λ b. b && false) (ne_eqb p high (λ e. let z : ⊥ = omega (arith, e, lt, le) in z))

-- ---- the section of the others, with one record more

pub one-behind : (new : Building) (p : Payload) (done : List Span) (s : Span) → IsBuilt new (with_other_segment (with_spans Others p done) (flat_record s)) → IsBuilt new (with_spans Others p (done ++ s ∷ []))
one-behind new p done s is = subst (λ (l : List Segment). IsBuilt new (record p { others = l }))
    (append_assoc p.others (map flat_record done) (flat_record s ∷ []) ∙ ap (λ (l : List Segment). p.others ++ l) (sym (map-append flat_record done (s ∷ []))))
    is
