-- One row of a remote more, beside a world.
use Rattle.std.proofs.Common.{◌≡◌, ◌<◌, ◌≤◌, ◌+◌, ◌-◌, ◌^◌, ℕ, zero, suc, Bool, true, false, not, ◌&&◌, ◌⊎◌, inl, inr, List, [], ◌∷◌, ◌++◌, length, map, drop, nat_eq, nat_lt, get_or, Some, None, slice_get, refl, sym, ap, ap₂, subst, ◌∙◌, ⊎_elim, if◌then◌else◌, arith, length-append, lit≤}
use Rattle.std.specs.Prelude.{MatchResult, Result, Ok, Err}
use Rattle.std.specs.List.{AllByRecursion, AllZip}
use Rattle.std.specs.Cmp.Lexicographic.{pointwise}
use Rattle.std.proofs.lemmas.List.{map-append, length-map}
use Rattle.std.proofs.lemmas.Bool.{ltb-true, ltb-false, false_from_ne_true}
use Rattle.std.proofs.lemmas.Option.{get_or_from_slice_get}
use Rattle.id_groups.specs.Lists.{IsIn, is_in, AreDistinct}
use Rattle.id_groups.specs.Name.{Name, same_name}
use Rattle.id_groups.specs.Id.{other_id}
use Rattle.id_groups.proofs.Names.{same_name-exact, same_name-self}
use Rattle.id_groups.proofs.Listing.{there, found}
use Rattle.commit_graph.specs.World.{Row, World, IsWorld, IsHistory, empty_world, names_of, rows_of, row_named, with_pending}
use Rattle.commit_graph.specs.Ids.{id_in}
use Rattle.commit_graph.proofs.Histories.{history-rest}
use Rattle.commit_graph.proofs.Down.{in-right}
use Rattle.commit_graph.proofs.Places.{item-at, id-in-master, world-master, place-left, name-at}
use Rattle.segment_codec.specs.Record.{Segment}
use Rattle.segment_codec.specs.Table.{parents_at}
use Rattle.batch_codec.specs.Reading.{names_read}
use Rattle.batch_codec.proofs.Entries.{names-again}
use Rattle.name_map.specs.Added.{Placed, payloads_of}
use Rattle.name_map.specs.Map.{IsIdOf}
use Rattle.change_rules.specs.Rebase.{left_of, has_parents, conflicts, first_conflict}
use Rattle.change_rules.specs.Tables.{StandFor}
use Rattle.change_rules.proofs.Flushes.{filtered-names}
use Rattle.payload_tables.specs.declared.base.BaseRef.{BaseRef}
use Rattle.payload_tables.specs.Pending.{PlainPending, HeldRow, HoldsRows, row_names}
use Rattle.payload_tables.specs.Bases.{IsBaseOf, held_row, stored_in}
use Rattle.payload_tables.proofs.Lists.{names-length, get-front}
use Rattle.payload_tables.proofs.Rows.{count-rows, names-whole}
use Rattle.change_parts.specs.declared.fault.PlanFault.{PlanFault}
use Rattle.change_parts.specs.declared.fault.PlanFault.TheVariants.{Memory}
use Rattle.change_parts.specs.Asked.{IsStored}
use Rattle.change_parts.specs.Plans.{conflict_fault}
use Rattle.rebase_pending.specs.Rebasing.{IsKept}
use Rattle.pull_plan.specs.Taken.{beside, IsBeside, IsOther, AreTaken, Beside, MayAdd}
use Rattle.rebase_pending.proofs.Rebased.{LeftIn, row-at-name, get-mapped, none-at, conflict-at, in-new, w-id, pending-there, stored-id, stored-row, same-ids, front-world, moved-distinct, row-kept, row-stored, placed}
use Rattle.rebase_pending.proofs.Stepping.{under}
use Rattle.rebase_pending.proofs.Moved.{not-stored}
use Rattle.pull_plan.proofs.ToldRows.{take-get}

-- ---- lists

drop-map : {X Y : Type 0} (f : X → Y) (n : ℕ) (xs : List X) → drop n (map f xs) ≡ map f (drop n xs)
drop-map f zero xs = refl
drop-map f (suc n) [] = refl
drop-map f (suc n) (x ∷ xs) = drop-map f n xs

drop-front : {X : Type 0} (n : ℕ) (xs ys : List X) → n ≤ length xs → drop n (xs ++ ys) ≡ drop n xs ++ ys
drop-front zero xs ys le = refl
drop-front (suc n) [] ys le = absurd (let z : ⊥ = omega (arith, le) in z)
drop-front (suc n) (x ∷ xs) ys le = drop-front n xs ys (omega (arith, le))

drop-get : {X : Type 0} (n k : ℕ) (xs : List X) → n ≤ k → slice_get (drop n xs) (k - n) ≡ slice_get xs k
drop-get zero k xs le = ap (slice_get xs) (let z : k - 0 ≡ k = omega arith in z)
drop-get (suc n) k [] le = refl
drop-get (suc n) zero (x ∷ xs) le = absurd (let z : ⊥ = omega (arith, le) in z)
drop-get (suc n) (suc k) (x ∷ xs) le = ap (slice_get (drop n xs)) (let z : suc k - suc n ≡ k - n = omega arith in z) ∙ drop-get n k xs (omega (arith, le))

drop-long : {X : Type 0} (n : ℕ) (xs : List X) → n ≤ length xs → n + length (drop n xs) ≡ length xs
drop-long zero xs le = omega arith
drop-long (suc n) [] le = absurd (let z : ⊥ = omega (arith, le) in z)
drop-long (suc n) (x ∷ xs) le = let r = drop-long n xs (omega (arith, le)) in omega (arith, r)

-- the names of rows that are held are one list
held-names : (p : PlainPending) (a b : List HeldRow) → HoldsRows p a → HoldsRows p b → row_names a ≡ row_names b
held-names p a b h g =
    sym (names-again (row_names a) (names-whole a h.whole))
    ∙ ap₂ (λ n bytes. names_read n bytes) (long a h ∙ sym (long b g)) (sym h.names ∙ g.names)
    ∙ names-again (row_names b) (names-whole b g.whole)
  where
    long : (rows : List HeldRow) → HoldsRows p rows → length (row_names rows) ≡ length p.places
    long rows r = length-map rows (λ (row : HeldRow). row.name) ∙ sym (count-rows p rows r)

-- ---- the rows so far

module _ (newest : BaseRef) (flats : List Segment) (cloned : ℕ) (w : World Name) (rows : List (Row Name)) (b : Beside newest flats cloned w rows) where
  theirs : IsHistory [] rows
  theirs = world-master rows b.theirs

  of_none : StandFor (payloads_of []) (empty_world {N = Name})
  of_none = record { count = refl; master = refl; known = tt; others = refl; names = refl }

  abbrev new_at : List (Row Name) → World Name
  new_at front = with_pending w (left_of same_name w front)

  abbrev new_id : List (Row Name) → Name → ℕ
  new_id front = id_in same_name (new_at front)

  left-so : (front : List (Row Name)) (ids : List ℕ) (left : PlainPending) → AreTaken w cloned front ids left → LeftIn w front (map (new_id front) (names_of front)) left
  left-so front ids left t = record { lossless = t.lossless; ids_are = refl; first = t.first; held = t.held }

  module _ (front rest : List (Row Name)) (row : Row Name) (parts : rows ≡ front ++ row ∷ rest) (behind : cloned ≤ length front) (ids : List ℕ) (left : PlainPending) (t : AreTaken w cloned front ids left) where
    left-is : LeftIn w front (map (new_id front) (names_of front)) left
    left-is = left-so front ids left t

    world-is : IsWorld (new_at front)
    world-is = front-world b.added [] w empty_world rows b.stand_for b.world b.small of_none theirs (w.master, refl) (λ name i j. absurd i) front (row ∷ rest) parts t.lossless

    -- where a row before stands
    beside-is : (n : ℕ) (p : Name) → slice_get (names_of front) n ≡ Some p → (beside cloned ids n ≡ new_id front p)
    beside-is n p e = by_test (nat_lt n cloned) refl
      where
        in_rows : slice_get (names_of rows) n ≡ Some p
        in_rows = ap (λ l. slice_get (names_of l) n) parts ∙ ap (λ l. slice_get l n) (map-append (λ (r : Row Name). r.name) front (row ∷ rest)) ∙ get-front (names_of front) (names_of (row ∷ rest)) n p e

        by_test : (c : Bool) → nat_lt n cloned ≡ c → (if nat_lt n cloned then n else get_or ids (n - cloned) 0) ≡ new_id front p
        by_test true f =
            let q = row-at-name rows n p in_rows in
            let lt = ltb-true n cloned f in
            let r : (r : Row Name) × (slice_get w.master n ≡ Some r) × (r.name ≡ p) =
            (q.0, sym (take-get w.master cloned n lt) ∙ ap (λ l. slice_get l n) (sym b.cloned_rows) ∙ take-get rows cloned n lt ∙ q.1, q.2) in
            let i : IsIn p (names_of (rows_of w)) = subst (λ x. IsIn x (names_of (rows_of w))) r.2 (name-at (rows_of w) n r.0 (place-left w.master w.others n r.0 r.1)) in
            ap (λ c. if c then n else get_or ids (n - cloned) 0) f
            ∙ sym (ap (id_in same_name w) (sym r.2) ∙ id-in-master same_name same_name-exact same_name-self w b.world n r.0 r.1)
            ∙ sym (w-id b.added [] w empty_world rows b.stand_for b.world b.small of_none theirs (w.master, refl) (λ name i j. absurd i) front p i)
        by_test false f =
            ap (λ c. if c then n else get_or ids (n - cloned) 0) f
            ∙ get_or_from_slice_get ids (n - cloned) (new_id front p) 0
            (ap (λ l. slice_get l (n - cloned)) (t.ids_are ∙ ap (map (new_id front)) (sym (drop-map (λ (r : Row Name). r.name) cloned front)) ∙ sym (drop-map (new_id front) cloned (names_of front)))
            ∙ drop-get cloned n (map (new_id front) (names_of front)) (ltb-false n cloned f) ∙ get-mapped (new_id front) (names_of front) n p e)

    beside-there : (n : ℕ) (p : Name) → slice_get (names_of front) n ≡ Some p → IsIn p (names_of (rows_of (new_at front)))
    beside-there n p e = pending-there b.added [] w empty_world rows b.stand_for b.world b.small of_none theirs (w.master, refl) (λ name i j. absurd i) front p (item-at (names_of front) n p e)

    ids-long : cloned + length ids ≡ length front
    ids-long =
        let a = ap (length {A = ℕ}) t.ids_are in let c = length-map (names_of (drop cloned front)) (new_id front) in let d = names-length (drop cloned front) in let e = drop-long cloned front behind in
        omega (arith, a, c, d, e)

    -- the parents by their ids
    all-beside : (ns : List ℕ) (ps : List Name) → AllZip (λ n p. slice_get (names_of front) n ≡ Some p) ns ps
        → (map (beside cloned ids) ns ≡ map (new_id front) ps) × ((p : Name) → IsIn p ps → IsIn p (names_of (rows_of (new_at front)))) × AllByRecursion (λ n. n < cloned + length ids) ns
    all-beside [] [] z = (refl, (λ p i. absurd i), tt)
    all-beside [] (p ∷ ps) z = absurd z
    all-beside (n ∷ ns) [] z = absurd z
    all-beside (n ∷ ns) (p ∷ ps) z =
        let rec = all-beside ns ps z.1 in (
          ap₂ (λ x l. x ∷ l) (beside-is n p z.0) rec.0,
          (λ q i. ⊎_elim (λ e. subst (λ x. IsIn x (names_of (rows_of (new_at front)))) (sym e) (beside-there n p z.0)) (λ j. rec.1 q j) i),
          ((let lt = under (names_of front) n p z.0 in let l = ids-long in let m = names-length front in omega (arith, lt, l, m)), rec.2),
        )

    -- an id of the world lies below the next one
    id-below : (x : Name) → IsIn x (names_of (rows_of (new_at front))) → new_id front x < other_id (left.first + length left.places)
    id-below x i =
        let many = count-rows left (map (held_row (new_at front)) (left_of same_name w front)) t.held in
        let long = length-map (left_of same_name w front) (held_row (new_at front)) in
        let l = length-append w.others (left_of same_name w front) in let first = t.first in
        ⊎_elim
        (λ m. let e = m.4 in let lt = under w.master m.0 m.1 m.2 in let s = b.small in let k : 16777216 ≤ 2 ^ 56 = lit≤ tt in omega (arith, e, lt, s, k))
        (λ o. let e = o.4 in let lt = under (w.others ++ left_of same_name w front) o.0 o.1 o.2 in omega (arith, e, lt, many, long, l, first))
        (placed b.added [] w empty_world rows b.stand_for b.world b.small of_none theirs (w.master, refl) (λ name i j. absurd i) (new_at front) world-is b.small x i)

    module _ (numbers : List ℕ) (named : AllZip (λ n p. slice_get (names_of front) n ≡ Some p) numbers row.parents) where
      abbrev parents : List ℕ
      parents = map (beside cloned ids) numbers

      parents-are : parents ≡ map (new_id front) row.parents
      parents-are = (all-beside numbers row.parents named).0

      parents-there : (p : Name) → IsIn p row.parents → IsIn p (names_of (rows_of (new_at front)))
      parents-there = (all-beside numbers row.parents named).1

      pub numbers-there : AllByRecursion (λ n. n < cloned + length ids) numbers
      numbers-there = (all-beside numbers row.parents named).2

      pub parents-apart : AreDistinct parents
      parents-apart = moved-distinct b.added [] w empty_world rows b.stand_for b.world b.small of_none theirs (w.master, refl) (λ name i j. absurd i) front rest row parts t.lossless parents parents-there parents-are

      pub parents-below : AllByRecursion (λ p. p < other_id (left.first + length left.places)) parents
      parents-below = subst (AllByRecursion (λ p. p < other_id (left.first + length left.places))) (sym parents-are) (each row.parents parents-there)
        where
          each : (ps : List Name) → ((p : Name) → IsIn p ps → IsIn p (names_of (rows_of (new_at front)))) → AllByRecursion (λ p. p < other_id (left.first + length left.places)) (map (new_id front) ps)
          each [] f = tt
          each (p ∷ ps) f = (id-below p (f p (inl refl)), each ps (λ q i. f q (inr i)))

      -- no row that is left has the name
      pub row-is-new : (held : List HeldRow) → HoldsRows left held → IsIn row.name (row_names held) → ⊥
      row-is-new held h i =
          let j : IsIn row.name (names_of (left_of same_name w front)) = subst (IsIn row.name) (held-names left held (map (held_row (new_at front)) (left_of same_name w front)) h t.held ∙ id-names (left_of same_name w front)) i in
          fresh-name front rest row parts (left-in front row.name j)
        where
          id-names : (some : List (Row Name)) → row_names (map (held_row (new_at front)) some) ≡ names_of some
          id-names [] = refl
          id-names (r ∷ some) = ap (λ l. r.name ∷ l) (id-names some)

          left-in : (some : List (Row Name)) (x : Name) → IsIn x (names_of (left_of same_name w some)) → IsIn x (names_of some)
          left-in some x i = filtered-names (λ q. not (is_in same_name q.name (names_of (rows_of w)))) x some i

          fresh-name : (front rest : List (Row Name)) (row : Row Name) → rows ≡ front ++ row ∷ rest → IsIn row.name (names_of front) → ⊥
          fresh-name front rest row e i = (history-rest [] front (row ∷ rest) (subst (IsHistory []) e theirs)).0.fresh i

      same-parents : (id : ℕ) → IsIn row.name (names_of (rows_of w)) → id ≡ id_in same_name w row.name → conflicts same_name w row ≡ not (pointwise nat_eq (parents_at flats id) parents)
      same-parents id i e =
          let s = stored-row b.added [] w empty_world rows b.stand_for b.world b.small of_none theirs (w.master, refl) (λ name i j. absurd i) 0 refl flats b.segments row.name i in
          let is : conflicts same_name w row ≡ not (pointwise same_name s.row.parents row.parents) =
          ap₂ (λ c o. c && not (has_parents same_name o row.parents)) (there same_name same_name-exact same_name-self row.name (names_of (rows_of w)) i) s.row_is in
          let old : map (id_in same_name w) s.row.parents ≡ map (new_id front) s.row.parents = same-on s.row.parents (λ p j. sym (w-id b.added [] w empty_world rows b.stand_for b.world b.small of_none theirs (w.master, refl) (λ name i j. absurd i) front p (s.parents_in p j))) in
          is ∙ ap not (
          sym (same-ids b.added [] w empty_world rows b.stand_for b.world b.small of_none theirs (w.master, refl) (λ name i j. absurd i) (new_at front) world-is b.small s.row.parents row.parents
          (λ p j. in-new b.added [] w empty_world rows b.stand_for b.world b.small of_none theirs (w.master, refl) (λ name i j. absurd i) front p (s.parents_in p j)) parents-there)
          ∙ ap₂ (λ x y. pointwise nat_eq x y) (sym (ap (parents_at flats) e ∙ s.parents_are ∙ old)) (sym parents-are))
        where
          same-on : (ps : List Name) → ((p : Name) → IsIn p ps → id_in same_name w p ≡ new_id front p) → map (id_in same_name w) ps ≡ map (new_id front) ps
          same-on [] f = refl
          same-on (p ∷ ps) f = ap₂ (λ x l. x ∷ l) (f p (inl refl)) (same-on ps (λ q i. f q (inr i)))

      -- the rows with this one behind them
      next-taken : (id : ℕ) (next : PlainPending) → conflicts same_name w row ≡ false → LeftIn w (front ++ row ∷ []) (map (new_id front) (names_of front) ++ id ∷ []) next → AreTaken w cloned (front ++ row ∷ []) (ids ++ id ∷ []) next
      next-taken id next calm l = record {
        calm = none-at w front row t.calm calm;
        lossless = l.lossless;
        ids_are =
            ap (λ x. x ++ id ∷ []) (t.ids_are ∙ ap (map (new_id front)) (sym (drop-map (λ (r : Row Name). r.name) cloned front)) ∙ sym (drop-map (new_id front) cloned (names_of front)))
            ∙ sym (drop-front cloned (map (new_id front) (names_of front)) (id ∷ []) (let a = length-map (names_of front) (new_id front) in let c = names-length front in omega (arith, a, c, behind)))
            ∙ ap (drop cloned) l.ids_are
            ∙ drop-map (new_id (front ++ row ∷ [])) cloned (names_of (front ++ row ∷ []))
            ∙ ap (map (new_id (front ++ row ∷ []))) (drop-map (λ (r : Row Name). r.name) cloned (front ++ row ∷ []));
        first = l.first;
        held = l.held;
      }

      not-there : (IsStored b.added row.name → ⊥) → is_in same_name row.name (names_of (rows_of w)) ≡ false
      not-there out = false_from_ne_true (is_in same_name row.name (names_of (rows_of w))) (λ e. out (b.stored row.name in-rest (found same_name same_name-exact same_name-self row.name (names_of (rows_of w)) e)))
        where
          in-rest : IsIn row.name (names_of (drop cloned rows))
          in-rest = subst (λ l. IsIn row.name (names_of l)) (sym (ap (drop cloned) parts ∙ drop-front cloned front (row ∷ rest) behind))
              (subst (IsIn row.name) (sym (map-append (λ (r : Row Name). r.name) (drop cloned front) (row ∷ rest))) (in-right row.name (names_of (drop cloned front)) (names_of (row ∷ rest)) (inl refl)))

      pub row-taken : (next : PlainPending) (id : ℕ) → IsBeside b.added flats row.name parents left next id → AreTaken w cloned (front ++ row ∷ []) (ids ++ id ∷ []) next
      row-taken next id (inl h) =
          let s = stored-id b.added [] w empty_world rows b.stand_for b.world b.small of_none theirs (w.master, refl) (λ name i j. absurd i) (record { id = id; name = row.name }) h.0 in
          subst (λ p. AreTaken w cloned (front ++ row ∷ []) (ids ++ id ∷ []) p) (sym h.2)
          (next-taken id left (same-parents id s.0 s.1 ∙ ap not h.1)
          (row-stored b.added [] w empty_world rows b.stand_for b.world b.small of_none theirs (w.master, refl) (λ name i j. absurd i) front row (map (new_id front) (names_of front)) left left-is s.0 id s.1))
      row-taken next id (inr h) =
          let out = not-there h.0 in
          next-taken id next (ap (λ c. c && not (has_parents same_name (row_named same_name (rows_of w) row.name) row.parents)) out)
          (row-kept b.added [] w empty_world rows b.stand_for b.world b.small of_none theirs (w.master, refl) (λ name i j. absurd i) front rest row parts (map (new_id front) (names_of front)) left next left-is out parents parents-there parents-are id h.1)

      pub row-conflicts : (fault : PlanFault) → (fault ≡ Memory) ⊎ IsOther b.added flats row.name parents fault → (fault ≡ Memory) ⊎ (conflict_fault (first_conflict same_name w rows) ≡ Some fault)
      row-conflicts fault (inl m) = inl m
      row-conflicts fault (inr h) =
          let s = stored-id b.added [] w empty_world rows b.stand_for b.world b.small of_none theirs (w.master, refl) (λ name i j. absurd i) (record { id = h.1; name = row.name }) h.2 in
          inr (ap conflict_fault (ap (first_conflict same_name w) parts ∙ conflict-at w front rest row t.calm (same-parents h.1 s.0 s.1 ∙ ap not h.3)) ∙ ap Some (sym h.0))

-- a name that isn't stored, whose row was put behind those that are left
pub new-beside : (newest : BaseRef) (added : List Placed) → IsBaseOf newest added → (flats : List Segment) (name : Name) (parents : List ℕ) (old new : PlainPending) (r : Result ℕ PlanFault) → IsIdOf (stored_in added) name (2 ^ 57) None
    → MatchResult r (IsKept old new name parents) (λ fault. fault ≡ Memory) → MatchResult r (IsBeside added flats name parents old new) (λ fault. (fault ≡ Memory) ⊎ IsOther added flats name parents fault)
new-beside newest added n flats name parents old new (Ok id) none h = inr (not-stored newest added n name none, h)
new-beside newest added n flats name parents old new (Err fault) none h = inl h

-- ---- the same where the row may come next

module _ (newest : BaseRef) (flats : List Segment) (cloned : ℕ) (ids : List ℕ) (left : PlainPending) (name : Name) (numbers : List ℕ) (w : World Name) (rows front rest : List (Row Name)) (row : Row Name)
    (m : MayAdd newest flats cloned ids left name numbers w rows front rest row) where
  pub add-numbers : AllByRecursion (λ n. n < cloned + length ids) numbers
  add-numbers = numbers-there newest flats cloned w rows m.beside front rest row m.parts m.behind ids left m.taken numbers m.parents_are

  pub add-new : (held : List HeldRow) → HoldsRows left held → IsIn name (row_names held) → ⊥
  add-new held h i = row-is-new newest flats cloned w rows m.beside front rest row m.parts m.behind ids left m.taken numbers m.parents_are held h (subst (λ n. IsIn n (row_names held)) (sym m.name_is) i)

  pub add-apart : AreDistinct (map (beside cloned ids) numbers)
  add-apart = parents-apart newest flats cloned w rows m.beside front rest row m.parts m.behind ids left m.taken numbers m.parents_are

  pub add-below : AllByRecursion (λ p. p < other_id (left.first + length left.places)) (map (beside cloned ids) numbers)
  add-below = parents-below newest flats cloned w rows m.beside front rest row m.parts m.behind ids left m.taken numbers m.parents_are

  pub add-taken : (next : PlainPending) (id : ℕ) → IsBeside m.beside.added flats name (map (beside cloned ids) numbers) left next id → AreTaken w cloned (front ++ row ∷ []) (ids ++ id ∷ []) next
  add-taken next id h = row-taken newest flats cloned w rows m.beside front rest row m.parts m.behind ids left m.taken numbers m.parents_are next id
      (subst (λ n. IsBeside m.beside.added flats n (map (beside cloned ids) numbers) left next id) (sym m.name_is) h)

  pub add-conflicts : (fault : PlanFault) → (fault ≡ Memory) ⊎ IsOther m.beside.added flats name (map (beside cloned ids) numbers) fault → (fault ≡ Memory) ⊎ (conflict_fault (first_conflict same_name w rows) ≡ Some fault)
  add-conflicts fault h = row-conflicts newest flats cloned w rows m.beside front rest row m.parts m.behind ids left m.taken numbers m.parents_are fault
      (subst (λ n. (fault ≡ Memory) ⊎ IsOther m.beside.added flats n (map (beside cloned ids) numbers) fault) (sym m.name_is) h)
