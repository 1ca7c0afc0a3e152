-- Names that were put along first parents.
use Rattle.std.proofs.Common.{◌≡◌, ℕ, zero, suc, ◌+◌, ◌<◌, ◌≤◌, List, [], ◌∷◌, Option, Some, None, length, take, refl, sym, ap, subst, ◌∙◌, arith, ⊎_elim}
use Rattle.std.specs.Prelude.{slice_get, slice_set, option_and_then}
use Rattle.id_groups.specs.Lists.{IsIn}
use Rattle.id_groups.specs.Name.{Name}
use Rattle.commit_graph.specs.World.{Row, names_of}
use Rattle.commit_graph.specs.Graph.{first_ancestor, first_of_list}
use Rattle.commit_graph.proofs.Places.{name-at}
use Rattle.segment_codec.specs.Record.{Segment}
use Rattle.segment_codec.specs.Table.{parents_at}
use Rattle.segment_codec.proofs.Tables.{le_or_lt}
use Rattle.ancestor_query.specs.Graph.{table_graph}
use Rattle.ancestor_query.proofs.Firsts.{first-add}
use Rattle.remote_trait.specs.Honest.{IsNamed, AreNamesOf, rows_graph}
use Rattle.remote_answers.specs.Master.{IsMasterIn, IsMasterOf, name_at}
use Rattle.remote_answers.specs.Lines.{IsPlace}
use Rattle.remote_answers.specs.declared.line.Place.{Place}
use Rattle.remote_answers.proofs.Walking.{first-named, named-at}

-- so many names stand at the front, and the place is that of the next one
pub record LineSoFar (flats : List Segment) (named : List (Row Name) → Type 0) (first k : ℕ) (place : Place) (out : List Name) : Type 0 where
  pub at : first_ancestor (table_graph flats) k first ≡ Some place.at
  pub is_place : IsPlace flats place
  pub each : (rows : List (Row Name)) → IsMasterOf flats named rows → (j : ℕ) → j < k → slice_get out j ≡ option_and_then (name_at rows) (first_ancestor (table_graph flats) j first)

-- ---- lists

set-here : (xs : List Name) (i : ℕ) (v : Name) → i < length xs → slice_get (slice_set xs i v) i ≡ Some v
set-here [] i v h = absurd (omega (arith, h))
set-here (x ∷ xs) zero v h = refl
set-here (x ∷ xs) (suc i) v h = set-here xs i v (omega (arith, h))

set-other : (xs : List Name) (i : ℕ) (v : Name) (j : ℕ) → (j ≡ i → ⊥) → slice_get (slice_set xs i v) j ≡ slice_get xs j
set-other [] zero v j apart = refl
set-other [] (suc i) v j apart = refl
set-other (x ∷ xs) zero v zero apart = absurd (apart refl)
set-other (x ∷ xs) zero v (suc j) apart = refl
set-other (x ∷ xs) (suc i) v zero apart = refl
set-other (x ∷ xs) (suc i) v (suc j) apart = set-other xs i v j (λ e. apart (ap suc e))

take-get : (n : ℕ) (xs : List Name) (j : ℕ) → j < n → slice_get (take n xs) j ≡ slice_get xs j
take-get zero xs j h = absurd (omega (arith, h))
take-get (suc n) [] j h = refl
take-get (suc n) (x ∷ xs) zero h = refl
take-get (suc n) (x ∷ xs) (suc j) h = take-get n xs j (omega (arith, h))

take-length : (n : ℕ) (xs : List Name) → n ≤ length xs → length (take n xs) ≡ n
take-length zero xs h = refl
take-length (suc n) [] h = absurd (omega (arith, h))
take-length (suc n) (x ∷ xs) h = ap suc (take-length n xs (omega (arith, h)))

-- ---- the loop

pub line-start : (flats : List Segment) (named : List (Row Name) → Type 0) (first : ℕ) (place : Place) (out : List Name) → place.at ≡ first → IsPlace flats place → LineSoFar flats named first 0 place out
line-start flats named first place out e p = record { at = ap (λ z. Some z) (sym e); is_place = p; each = λ rows h j lt. absurd (omega (arith, lt)) }

module _ (flats : List Segment) (named : List (Row Name) → Type 0) (first k : ℕ) (place : Place) (out : List Name) (l : LineSoFar flats named first k place out) (lt : k < length out) (v : Name) (is_named : (rows : List (Row Name)) → IsMasterOf flats named rows → IsNamed rows place.at v) where
  -- one name more stands
  pub each-more : (rows : List (Row Name)) → IsMasterOf flats named rows → (j : ℕ) → j < k + 1 → slice_get (slice_set out k v) j ≡ option_and_then (name_at rows) (first_ancestor (table_graph flats) j first)
  each-more rows h j under = ⊎_elim
      (λ le.
      let same : k ≡ j = omega (arith, le, under) in
      subst (λ n. slice_get (slice_set out k v) n ≡ option_and_then (name_at rows) (first_ancestor (table_graph flats) n first)) same
      (set-here out k v lt ∙ sym (ap (option_and_then (name_at rows)) l.at ∙ named-at rows place.at v (is_named rows h))))
      (λ less. set-other out k v j (λ e. omega (arith, less, e)) ∙ l.each rows h j less)
      (le_or_lt k j)

  step-to : (o : Option ℕ) → first_of_list (parents_at flats place.at) ≡ o → first_ancestor (table_graph flats) (k + 1) first ≡ o
  step-to o e =
      let one : suc k ≡ k + 1 = omega arith in
      subst (λ n. first_ancestor (table_graph flats) n first ≡ o) one (ap (option_and_then (λ y. first_of_list (parents_at flats y))) l.at ∙ e)

  pub line-more : (next : Place) → first_of_list (parents_at flats place.at) ≡ Some next.at → IsPlace flats next → LineSoFar flats named first (k + 1) next (slice_set out k v)
  line-more next e p = record { at = step-to (Some next.at) e; is_place = p; each = each-more }

  pub line-end : first_of_list (parents_at flats place.at) ≡ None → first_ancestor (table_graph flats) (k + 1) first ≡ None
  line-end e = step-to None e

-- ---- the whole

module _ (flats : List Segment) (rows : List (Row Name)) (m : IsMasterIn flats rows) (x : Name) (back room : ℕ) (out : List Name) where
  pub none-so_far : (id : ℕ) → IsNamed rows id x → None ≡ first_ancestor (table_graph flats) back id → AreNamesOf rows x back room (take 0 out)
  none-so_far id at none = record {
    each = λ k lt. absurd (omega (arith, lt));
    there = λ lt. absurd (omega (arith, lt));
    all = λ lt i. ap (λ n. first_ancestor (rows_graph rows) n x) (let e : back + 0 ≡ back = omega arith in e) ∙ first-named flats rows m back id x at ∙ ap (option_and_then (name_at rows)) (sym none);
  }

  pub names-put : (id first n : ℕ) → IsNamed rows id x → Some first ≡ first_ancestor (table_graph flats) back id → n ≤ length out
      → ((k : ℕ) → k < n → slice_get out k ≡ option_and_then (name_at rows) (first_ancestor (table_graph flats) k first))
      → (n < room → first_ancestor (table_graph flats) n first ≡ None) → AreNamesOf rows x back room (take n out)
  names-put id first n at begins fits each all =
      let len = take-length n out fits in
      record {
        each = λ k lt. let c : k < n = omega (arith, lt, len) in to k ∙ sym (each k c) ∙ sym (take-get n out k c);
        there = λ _. subst (λ z. IsIn z (names_of rows)) at.named (name-at rows id at.row at.there);
        all = λ lt _. subst (λ i. first_ancestor (rows_graph rows) (back + i) x ≡ None) (sym len) (to n ∙ ap (option_and_then (name_at rows)) (all (omega (arith, lt, len))));
      }
    where
      to : (k : ℕ) → first_ancestor (rows_graph rows) (back + k) x ≡ option_and_then (name_at rows) (first_ancestor (table_graph flats) k first)
      to k = first-named flats rows m (back + k) id x at
          ∙ ap (option_and_then (name_at rows)) (first-add (table_graph flats) k back (back + k) id refl ∙ ap (option_and_then (first_ancestor (table_graph flats) k)) (sym begins))
