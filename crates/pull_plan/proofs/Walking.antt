-- The walk over the rows that a remote told, from the cloned ones on.
use Rattle.std.proofs.Common.{◌≡◌, ◌<◌, ◌≤◌, ◌+◌, ◌-◌, ℕ, zero, suc, true, false, not, cond, ◌&&◌, inl, inr, List, [], ◌∷◌, ◌++◌, length, map, take, drop, max, nat_eq, Some, None, slice_get, refl, sym, ap, ap₂, subst, ◌∙◌, if◌then◌else◌, arith}
use Rattle.std.specs.Cmp.Lexicographic.{pointwise}
use Rattle.id_groups.specs.Lists.{IsIn}
use Rattle.id_groups.specs.Name.{Name, same_name}
use Rattle.id_groups.proofs.Names.{same_name-exact, same_name-self}
use Rattle.id_groups.proofs.Listing.{there}
use Rattle.commit_graph.specs.World.{Row, World, names_of, rows_of, with_pending}
use Rattle.commit_graph.specs.Ids.{id_in}
use Rattle.commit_graph.proofs.Down.{in-left}
use Rattle.segment_codec.specs.Record.{Segment}
use Rattle.segment_codec.specs.Turns.{StandInTurn, place_behind}
use Rattle.remote_rules.specs.Lawful.{MayStandHere}
use Rattle.change_rules.specs.Rebase.{left_of, has_parents, conflicts, first_conflict}
use Rattle.change_rules.proofs.Flushes.{row-found, name-in}
use Rattle.mirror_set.specs.Fresh.{PlainFresh}
use Rattle.payload_tables.specs.declared.base.BaseRef.{BaseRef}
use Rattle.payload_tables.specs.Pending.{PlainPending, HoldsRows}
use Rattle.payload_tables.specs.Bases.{held_row}
use Rattle.pull_plan.specs.Taken.{AreTaken, MayAdd, MayWalk}
use Rattle.change_parts.proofs.Marking.{all-taken}
use Rattle.rebase_pending.proofs.Stepping.{split-at, take-next, under}
use Rattle.pull_plan.proofs.ToldRows.{some-is, take-long, RowAt, row-at, turn, rows-total}

-- ---- rows that the world has

same-names : (xs : List Name) → pointwise same_name xs xs ≡ true
same-names [] = refl
same-names (x ∷ xs) = ap (λ b. b && pointwise same_name xs xs) (same_name-self x) ∙ same-names xs

in-taken : {X : Type 0} (n : ℕ) (xs : List X) (x : X) → IsIn x (take n xs) → IsIn x xs
in-taken zero xs x i = absurd i
in-taken (suc n) [] x i = i
in-taken (suc n) (y ∷ xs) x (inl e) = inl e
in-taken (suc n) (y ∷ xs) x (inr i) = inr (in-taken n xs x i)

module _ (newest : BaseRef) (flats : List Segment) (cloned : ℕ) (fresh : PlainFresh) (w : World Name) (rows : List (Row Name)) (m : MayWalk newest flats cloned fresh w rows) where
  own-calm : (r : Row Name) → IsIn r (rows_of w) → conflicts same_name w r ≡ false
  own-calm r i =
      ap₂ (λ b o. b && not (has_parents same_name o r.parents)) (there same_name same_name-exact same_name-self r.name (names_of (rows_of w)) (name-in r (rows_of w) i))
      (row-found same_name same_name-exact same_name-self [] (rows_of w) r m.beside.world i)
      ∙ ap not (same-names r.parents)

  all-calm : (some : List (Row Name)) → ((r : Row Name) → IsIn r some → IsIn r (rows_of w)) → first_conflict same_name w some ≡ None
  all-calm [] f = refl
  all-calm (r ∷ some) f = ap (λ b. if b then Some r.name else first_conflict same_name w some) (own-calm r (f r (inl refl))) ∙ all-calm some (λ q i. f q (inr i))

  none-left : (some : List (Row Name)) → ((r : Row Name) → IsIn r some → IsIn r (rows_of w)) → left_of same_name w some ≡ []
  none-left [] f = refl
  none-left (r ∷ some) f =
      ap (λ b. cond (not b) (r ∷ left_of same_name w some) (left_of same_name w some)) (there same_name same_name-exact same_name-self r.name (names_of (rows_of w)) (name-in r (rows_of w) (f r (inl refl))))
      ∙ none-left some (λ q i. f q (inr i))

  drop-taken : (n : ℕ) (xs : List (Row Name)) → drop n (take n xs) ≡ []
  drop-taken zero xs = refl
  drop-taken (suc n) [] = refl
  drop-taken (suc n) (x ∷ xs) = drop-taken n xs

  -- before the first row that wasn't cloned
  pub start : (ids : List ℕ) (left : PlainPending) → ids ≡ [] → HoldsRows left [] → left.first ≡ length w.others → AreTaken w cloned (take cloned rows) ids left
  start ids left none held first =
      let here : (r : Row Name) → IsIn r (take cloned rows) → IsIn r (rows_of w) = λ r i. in-left r w.master w.others (in-taken cloned w.master r (subst (IsIn r) m.beside.cloned_rows i)) in
      let gone = none-left (take cloned rows) here in record {
        calm = all-calm (take cloned rows) here;
        lossless = ap (Rattle.change_rules.specs.Rebase.first_missing same_name (names_of (rows_of w))) gone;
        ids_are = none ∙ ap (λ l. map (id_in same_name (with_pending w (left_of same_name w (take cloned rows)))) (names_of l)) (sym (drop-taken cloned rows));
        first = first;
        held = subst (λ l. HoldsRows left (map (held_row (with_pending w l)) l)) (sym gone) held;
      }

  abbrev numbers : Segment → ℕ → List ℕ
  numbers s id = if nat_eq id s.low then s.parents else (id - 1) ∷ []

  pub row-here : (s : Segment) → IsIn s fresh.cloned.segments → (id : ℕ) → s.low ≤ id → id ≤ s.high → cloned ≤ id → RowAt cloned fresh rows (numbers s id) id
  row-here s i id low high ge = subst (λ l. RowAt cloned fresh l (numbers s id) id) (sym m.rows_are) (row-at w cloned fresh m.unbroken m.count m.beside.cloned_few s i id low high ge)

  -- the row with an id may come next
  pub may-add : (numbers : List ℕ) (id : ℕ) (r : RowAt cloned fresh rows numbers id) → cloned ≤ id → (ids : List ℕ) (left : PlainPending) → AreTaken w cloned (take id rows) ids left
      → (name : Name) → slice_get fresh.names (id - cloned) ≡ Some name → MayAdd newest flats cloned ids left name numbers w rows (take id rows) (drop (suc id) rows) r.row
  may-add numbers id r ge ids left taken name e = record {
    beside = m.beside;
    parts = split-at rows id r.row r.at;
    behind = (let lt = under rows id r.row r.at in let l = take-long id rows (omega (arith, lt)) in omega (arith, l, ge));
    taken = taken;
    name_is = some-is r.row.name name (sym r.named ∙ e);
    parents_are = r.parents_are;
  }

  pub next-front : (numbers : List ℕ) (id : ℕ) (r : RowAt cloned fresh rows numbers id) (ids : List ℕ) (left : PlainPending) → AreTaken w cloned (take id rows ++ r.row ∷ []) ids left → AreTaken w cloned (take (id + 1) rows) ids left
  next-front numbers id r ids left t = subst (λ l. AreTaken w cloned l ids left) (sym (take-next rows id r.row r.at)) t

  pub name-place : (s : Segment) → IsIn s fresh.cloned.segments → (id : ℕ) → s.low ≤ id → id ≤ s.high → cloned ≤ id → id - cloned < length fresh.names
  name-place s i id low high ge = let r = row-here s i id low high ge in under fresh.names (id - cloned) r.row.name r.named

  pub segment-ordered : (s : Segment) → IsIn s fresh.cloned.segments → s.low ≤ s.high
  segment-ordered s i = ordered 0 fresh.cloned.segments (turn w cloned fresh m.unbroken m.count m.beside.cloned_few) i
    where
      ordered : (place : ℕ) (ss : List Segment) → StandInTurn MayStandHere place ss → IsIn s ss → s.low ≤ s.high
      ordered place [] h i = absurd i
      ordered place (t ∷ ss) h (inl e) = subst (λ (z : Segment). z.low ≤ z.high) (sym e) h.0.order
      ordered place (t ∷ ss) h (inr j) = ordered (t.high + 1) ss h.1 j

  -- ---- segment by segment

  abbrev place : ℕ → ℕ
  place k = place_behind 0 (take k fresh.cloned.segments)

  pub place-here : (k : ℕ) (s : Segment) → slice_get fresh.cloned.segments k ≡ Some s → place k ≡ s.low
  place-here k s e = here k 0 fresh.cloned.segments (turn w cloned fresh m.unbroken m.count m.beside.cloned_few) e
    where
      here : (k place : ℕ) (ss : List Segment) → StandInTurn MayStandHere place ss → slice_get ss k ≡ Some s → place_behind place (take k ss) ≡ s.low
      here k place [] h e = absurd (Rattle.pull_plan.proofs.ToldRows.no-some s (sym e))
      here zero place (t ∷ ss) h e = sym h.0.begins ∙ ap (λ (z : Segment). z.low) (some-is t s e)
      here (suc k) place (t ∷ ss) h e = here k (t.high + 1) ss h.1 e

  pub place-next : (k : ℕ) (s : Segment) → slice_get fresh.cloned.segments k ≡ Some s → place (k + 1) ≡ s.high + 1
  place-next k s e = ap (place_behind 0) (take-next fresh.cloned.segments k s e) ∙ behind 0 (take k fresh.cloned.segments)
    where
      behind : (at : ℕ) (ss : List Segment) → place_behind at (ss ++ s ∷ []) ≡ s.high + 1
      behind at [] = refl
      behind at (t ∷ ss) = behind (t.high + 1) ss

  pub all-walked : (k : ℕ) → length fresh.cloned.segments ≤ k → (ids : List ℕ) (left : PlainPending) → AreTaken w cloned (take (max cloned (place k)) rows) ids left → AreTaken w cloned rows ids left
  all-walked k le ids left t =
      subst (λ l. AreTaken w cloned l ids left)
      (all-taken rows (max cloned (place k)) (let a = ap (place_behind 0) (all-taken fresh.cloned.segments k le) in let b = rows-total w cloned fresh m.unbroken m.count m.beside.cloned_few in let c = ap (length {A = Row Name}) m.rows_are in omega (arith, a, b, c))) t
