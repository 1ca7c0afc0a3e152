-- What is left of the first pending rows, whatever world it is.
use Rattle.std.proofs.Common.{◌≡◌, ◌<◌, ◌≤◌, ◌+◌, ◌-◌, ◌^◌, ℕ, zero, suc, ◌⊎◌, inl, inr, List, [], ◌∷◌, ◌++◌, length, Option, Some, None, slice_get, is_some, refl, sym, ap, subst, ◌∙◌, ⊎_elim, arith, true≢false, length-append}
use Rattle.std.specs.List.{AllByRecursion, AllZip}
use Rattle.std.proofs.lemmas.List.{map-append}
use Rattle.std.proofs.lemmas.Bool.{cases_lt}
use Rattle.id_groups.specs.Lists.{IsIn, AreDistinct}
use Rattle.id_groups.specs.Id.{other_id}
use Rattle.commit_graph.proofs.Histories.{in-append}
use Rattle.commit_graph.proofs.Down.{in-left, in-right}
use Rattle.batch_codec.specs.Grammar.{count_after}
use Rattle.segment_codec.specs.Flat.{IsFlat}
use Rattle.flat_segments.specs.Placed.{PlacedSegment, placed_segments}
use Rattle.name_map.specs.Added.{Placed, payloads_of}
use Rattle.change_rules.specs.Tables.{newest, other_names_in}
use Rattle.payload_tables.specs.declared.base.BaseRef.{BaseRef}
use Rattle.payload_tables.specs.Pending.{HeldRow, PlainPending, row_names, segments_from}
use Rattle.payload_tables.specs.Bases.{IsBaseOf}
use Rattle.payload_tables.proofs.Lists.{all-append, distinct-join}
use Rattle.payload_tables.proofs.Rows.{get-below, count-rows}
use Rattle.change_parts.specs.Asked.{others_count, IsStored, IsFoundIn}
use Rattle.rebase_pending.specs.Rebasing.{IsMoved, IsKept, IsNewId, LeftSoFar}
use Rattle.rebase_pending.proofs.Moved.{stored-bound}

all-at : (P : ℕ → Type 0) (ids : List ℕ) (k : ℕ) → AllByRecursion P ids → k < length ids → (id : ℕ) × (slice_get ids k ≡ Some id) × P id
all-at P [] k h lt = absurd (let z : ⊥ = omega (arith, lt) in z)
all-at P (x ∷ ids) zero h lt = (x, refl, h.0)
all-at P (x ∷ ids) (suc k) h lt = all-at P ids k h.1 (omega (arith, lt))

all-weaker : (P Q : ℕ → Type 0) → ((x : ℕ) → P x → Q x) → (xs : List ℕ) → AllByRecursion P xs → AllByRecursion Q xs
all-weaker P Q f [] h = tt
all-weaker P Q f (x ∷ xs) h = (f x h.0, all-weaker P Q f xs h.1)

-- the parents of the row with this number are few and lie below it
pub row-parents-below : (id at : ℕ) (rows : List HeldRow) → AllByRecursion (λ (r : PlacedSegment). IsFlat r.segment) (placed_segments at (segments_from id rows)) → (k : ℕ) (row : HeldRow) → slice_get rows k ≡ Some row
    → AllByRecursion (λ p. p < id + k) row.parents × (length row.parents ≤ 8)
row-parents-below id at [] h k row e = absurd (true≢false (sym (ap is_some e)))
row-parents-below id at (r ∷ rows) h zero row e =
    let same : r ≡ row = ap some_or e in
    (subst (λ (q : HeldRow). AllByRecursion (λ p. p < id + 0) q.parents) same (all-weaker (λ p. p < id) (λ p. p < id + 0) (λ x l. omega (arith, l)) r.parents h.0.segment.below), subst (λ (q : HeldRow). length q.parents ≤ 8) same h.0.segment.level_parents)
  where
    some_or : Option HeldRow → HeldRow
    some_or None = r
    some_or (Some a) = a
row-parents-below id at (r ∷ rows) h (suc k) row e =
    let t = row-parents-below (id + 1) _ rows h.1 k row e in
    (all-weaker (λ p. p < id + 1 + k) (λ p. p < id + suc k) (λ x l. omega (arith, l)) row.parents t.0, t.1)

pub parents-at : (P : HeldRow → Type 0) (rows : List HeldRow) (k : ℕ) (row : HeldRow) → AllByRecursion P rows → slice_get rows k ≡ Some row → P row
parents-at P [] k row h e = absurd (true≢false (sym (ap is_some e)))
parents-at P (r ∷ rows) zero row h e = subst P (ap some_or e) h.0
  where
    some_or : Option HeldRow → HeldRow
    some_or None = r
    some_or (Some a) = a
parents-at P (r ∷ rows) (suc k) row h e = parents-at P rows k row h.1 e

-- the new parents of a row are ids of the newest base, or of rows that are left
pub moved-new : (newer base : BaseRef) (added before : List Placed) → IsBaseOf newer added → newer.below ≡ count_after 0 (payloads_of added) → base.below ≤ count_after 0 (payloads_of added)
    → (first : ℕ) (ids : List ℕ) (others : ℕ) → first ≡ others_count before → AllByRecursion (IsNewId (count_after 0 (payloads_of added)) (others_count added + others)) ids
    → (ps moved : List ℕ) → AllByRecursion (λ p. (p < base.below) ⊎ (2 ^ 56 ≤ p)) ps → AllByRecursion (λ p. p < other_id (first + length ids)) ps → AllZip (IsMoved before added first ids) ps moved
    → AllByRecursion (IsNewId (count_after 0 (payloads_of added)) (others_count added + others)) moved
moved-new newer base added before n nb grows first ids others fe new [] [] f g h = tt
moved-new newer base added before n nb grows first ids others fe new [] (x ∷ moved) f g h = absurd h
moved-new newer base added before n nb grows first ids others fe new (p ∷ ps) [] f g h = absurd h
moved-new newer base added before n nb grows first ids others fe new (p ∷ ps) (x ∷ moved) f g h =
    (⊎_elim under over (lt-or-le p (2 ^ 56)), moved-new newer base added before n nb grows first ids others fe new ps moved f.1 g.1 h.1)
  where
    lt-or-le : (a b : ℕ) → (a < b) ⊎ (b ≤ a)
    lt-or-le a b = elim (cases_lt a b) [
      | inl lt ↦ inl lt
      | inr ge ↦ inr ge
    ]

    under : p < 2 ^ 56 → IsNewId (count_after 0 (payloads_of added)) (others_count added + others) x
    under lt = let e = h.0.master lt in ⊎_elim (λ a. inl (omega (arith, e, a, grows))) (λ b. absurd (let z : ⊥ = omega (arith, lt, b) in z)) f.0

    stored : (k : ℕ) → p ≡ other_id k → k < first → IsNewId (count_after 0 (payloads_of added)) (others_count added + others) x
    stored k e lt =
        let name = get-below (other_names_in (newest (payloads_of before))) k (omega (arith, lt, fe)) in
        ⊎_elim (λ a. inl (omega (arith, a, nb))) (λ b. inr (b.0, (let hi = b.1 in omega (arith, hi)))) (stored-bound newer added n (record { id = x; name = name.0 }) (h.0.stored k name.0 e name.1))

    pending : (k : ℕ) → p ≡ other_id (first + k) → k < length ids → IsNewId (count_after 0 (payloads_of added)) (others_count added + others) x
    pending k e lt = let t = all-at (IsNewId (count_after 0 (payloads_of added)) (others_count added + others)) ids k new lt in subst (IsNewId (count_after 0 (payloads_of added)) (others_count added + others)) (sym (h.0.pending k t.0 e t.1)) t.2

    over : 2 ^ 56 ≤ p → IsNewId (count_after 0 (payloads_of added)) (others_count added + others) x
    over le = ⊎_elim
        (λ lt. stored (p - 2 ^ 56) (omega (arith, le)) lt)
        (λ ge. let hi = g.0 in pending (p - 2 ^ 56 - first) (omega (arith, le, ge)) (omega (arith, le, ge, hi)))
        (lt-or-le (p - 2 ^ 56) first)

new-parents : (m o : ℕ) (ps : List ℕ) → AllByRecursion (IsNewId m o) ps → AllByRecursion (λ p. (p < m) ⊎ (2 ^ 56 ≤ p)) ps
new-parents m o [] h = tt
new-parents m o (p ∷ ps) h = (⊎_elim (λ a. inl a) (λ b. inr b.0) h.0, new-parents m o ps h.1)

not-front : (front rest : List HeldRow) (row : HeldRow) → AreDistinct (row_names (front ++ row ∷ rest)) → IsIn row.name (row_names front) → ⊥
not-front [] rest row d i = i
not-front (r ∷ front) rest row d (inl e) = d.0 (subst (IsIn r.name) (sym (map-append (λ (q : HeldRow). q.name) front (row ∷ rest))) (in-right r.name (row_names front) (row_names (row ∷ rest)) (inl (sym e))))
not-front (r ∷ front) rest row d (inr i) = not-front front rest row d.1 i

-- one more row, which was found
pub found-so-far : (added : List Placed) (front : List HeldRow) (row : HeldRow) (ids : List ℕ) (kept : PlainPending) → LeftSoFar added front ids kept
    → (id : ℕ) → IsFoundIn added row.name (Some id) → LeftSoFar added (front ++ row ∷ []) (ids ++ id ∷ []) kept
found-so-far added front row ids kept l id f =
    let len = length-append front (row ∷ []) in let leni = length-append ids (id ∷ []) in let few = l.few in let il = l.ids_long in
    record {
      some = l.some;
      held = l.held;
      first = l.first;
      parents = l.parents;
      distinct = l.distinct;
      within = λ x i. subst (IsIn x) (sym (map-append (λ (q : HeldRow). q.name) front (row ∷ []))) (in-left x (row_names front) (row.name ∷ []) (l.within x i));
      fresh = l.fresh;
      few = omega (arith, len, few);
      ids_long = omega (arith, len, leni, il);
      ids_new = all-append (IsNewId (count_after 0 (payloads_of added)) (others_count added + length l.some)) ids (id ∷ []) l.ids_new
          (⊎_elim (λ a. inl a) (λ b. inr (b.0, (let hi = b.1 in omega (arith, hi)))) f, tt);
    }

-- one more row, which is left
pub kept-so-far : (added : List Placed) (front rest : List HeldRow) (row : HeldRow) (ids : List ℕ) (kept next : PlainPending) → AreDistinct (row_names (front ++ row ∷ rest)) → LeftSoFar added front ids kept
    → (id : ℕ) (moved : List ℕ) → IsFoundIn added row.name None → IsKept kept next row.name moved id
    → ((others : ℕ) → AllByRecursion (IsNewId (count_after 0 (payloads_of added)) (others_count added + others)) ids → AllByRecursion (IsNewId (count_after 0 (payloads_of added)) (others_count added + others)) moved)
    → LeftSoFar added (front ++ row ∷ []) (ids ++ id ∷ []) next
kept-so-far added front rest row ids kept next d l id moved f h new =
    let len = length-append front (row ∷ []) in let leni = length-append ids (id ∷ []) in let few = l.few in let il = l.ids_long in
    let r : HeldRow = record { name = row.name; parents = moved } in
    let more = length-append l.some (r ∷ []) in
    let many = count-rows kept l.some l.held in
    let a = h.id_is in let fst = l.first in
    let wider = all-weaker (IsNewId (count_after 0 (payloads_of added)) (others_count added + length l.some)) (IsNewId (count_after 0 (payloads_of added)) (others_count added + length (l.some ++ r ∷ [])))
    (λ x i. ⊎_elim (λ a. inl a) (λ b. inr (b.0, (let hi = b.1 in omega (arith, hi, more)))) i) in
    record {
      some = l.some ++ r ∷ [];
      held = h.rows l.some l.held;
      first = h.first ∙ l.first;
      parents = all-append (λ (q : HeldRow). AllByRecursion (λ p. (p < count_after 0 (payloads_of added)) ⊎ (2 ^ 56 ≤ p)) q.parents) l.some (r ∷ []) l.parents
          (new-parents (count_after 0 (payloads_of added)) (others_count added + length l.some) moved (new (length l.some) l.ids_new), tt);
      distinct = subst AreDistinct (sym (map-append (λ (q : HeldRow). q.name) l.some (r ∷ [])))
          (distinct-join (row_names l.some) (row.name ∷ []) l.distinct ((λ i. i), tt) (λ x i j. ⊎_elim (λ e. not-front front rest row d (subst (λ z. IsIn z (row_names front)) e (l.within x i))) (λ e. e) j));
      within = λ x i. subst (IsIn x) (sym (map-append (λ (q : HeldRow). q.name) front (row ∷ [])))
          (⊎_elim (λ j. in-left x (row_names front) (row.name ∷ []) (l.within x j)) (λ j. in-right x (row_names front) (row.name ∷ []) j)
          (in-append x (row_names l.some) (row.name ∷ []) (subst (IsIn x) (map-append (λ (q : HeldRow). q.name) l.some (r ∷ [])) i)));
      fresh = λ x i s. ⊎_elim (λ j. l.fresh x j s) (λ j. ⊎_elim (λ e. f (subst (IsStored added) e s)) (λ e. e) j)
          (in-append x (row_names l.some) (row.name ∷ []) (subst (IsIn x) (map-append (λ (q : HeldRow). q.name) l.some (r ∷ [])) i));
      few = omega (arith, len, few, more);
      ids_long = omega (arith, len, leni, il);
      ids_new = all-append (IsNewId (count_after 0 (payloads_of added)) (others_count added + length (l.some ++ r ∷ []))) ids (id ∷ []) (wider ids l.ids_new)
          (inr ((let z : 2 ^ 56 ≤ id = omega (arith, a) in z), (let z : id < other_id (others_count added + length (l.some ++ r ∷ [])) = omega (arith, a, fst, many, more) in z)), tt);
    }
