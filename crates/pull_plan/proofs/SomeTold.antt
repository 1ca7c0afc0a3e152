-- What a remote told beside lawful payloads, where it agrees with them, is the master of some world, beside a world for which they stand.
use Rattle.std.proofs.Common.{◌≡◌, ◌<◌, ◌≤◌, ◌+◌, ◌^◌, ◌&&◌, ◌||◌, ℕ, zero, suc, Bool, true, false, not, cond, ◌⊎◌, inl, inr, List, [], ◌∷◌, ◌++◌, length, map, take, drop, filter, flat_map, nat_eq, nat_lt, Option, Some, None, slice_get, is_some, refl, sym, ap, subst, ◌∙◌, ⊎_elim, arith, true≢false, append_assoc, append-nil, length-append, lit≤}
use Rattle.std.specs.List.{AllByRecursion, cons_option, list_all}
use Rattle.std.proofs.lemmas.List.{map-append, length-map, take-append-drop}
use Rattle.std.proofs.lemmas.Bool.{lt-ltb}
use Rattle.change_parts.specs.Plans.{clone_fault, first_fault}
use Rattle.id_groups.specs.Lists.{IsIn, is_in, AreAllIn, AreDistinct}
use Rattle.id_groups.specs.Name.{Name, same_name}
use Rattle.id_groups.proofs.Names.{same_name-exact, same_name-self}
use Rattle.id_groups.proofs.Listing.{and_true, not_true, there, found}
use Rattle.commit_graph.specs.World.{Row, World, IsWorld, IsHistory, names_of, rows_of, with_pending}
use Rattle.commit_graph.proofs.Histories.{history-rest, in-append}
use Rattle.commit_graph.proofs.Down.{in-left, in-right}
use Rattle.commit_graph.proofs.Naming.{each, all-each}
use Rattle.commit_graph.proofs.Places.{at-name, item-at, apart, master-world, world-master}
use Rattle.segment_codec.specs.Record.{Segment}
use Rattle.segment_codec.specs.Turns.{StandInTurn, place_behind}
use Rattle.segment_codec.proofs.Tables.{le_or_lt}
use Rattle.segment_rules.specs.Flat.{parents_listed}
use Rattle.batch_codec.specs.Payload.{Payload, Known, known_names}
use Rattle.batch_codec.specs.Grammar.{count_after}
use Rattle.name_map.specs.Added.{Placed, payloads_of}
use Rattle.remote_rules.specs.CloneData.{CloneData, KnownName}
use Rattle.remote_rules.specs.Lawful.{MayStandHere}
use Rattle.mirror_set.specs.Fresh.{PlainFresh}
use Rattle.change_rules.specs.Tables.{StandFor, known_in, newest, other_names_in, cloned_count}
use Rattle.change_rules.specs.Disagree.{first_unlike, first_bad_row, rows_fit}
use Rattle.change_rules.proofs.Lawful.{history-distinct}
use Rattle.change_rules.proofs.Cloned.{filter-back}
use Rattle.payload_tables.specs.declared.base.BaseRef.{BaseRef}
use Rattle.payload_tables.specs.Kept.{PlainTables}
use Rattle.payload_tables.specs.Pending.{HeldRow, PlainPending, HoldsRows, row_names}
use Rattle.payload_tables.specs.Bases.{IsBaseOf, ArePending, AreSegmentsOf, held_row}
use Rattle.payload_tables.proofs.Lists.{names-length, get-front, distinct-join, distinct-parts}
use Rattle.payload_tables.proofs.Rows.{get-below}
use Rattle.payload_tables.proofs.Joined.{get-map}
use Rattle.change_parts.specs.declared.fault.PlanFault.{PlanFault}
use Rattle.change_parts.specs.declared.fault.PlanFault.TheVariants.{Memory}
use Rattle.change_parts.specs.Asked.{IsStored}
use Rattle.pull_plan.specs.Pulling.{MayPullOn, told_names, names_at_all, rows_with, told_rows, row_fault, mismatch}
use Rattle.pull_plan.specs.Taken.{MayTake, MayWalk}
use Rattle.change_parts.proofs.StoredNames.{stored-names}
use Rattle.change_parts.proofs.Renumber.{in-map, map-in-back}
use Rattle.change_parts.proofs.NumberedRows.{AllRows, Below, Behind}
use Rattle.change_parts.proofs.Invented.{FitAmong, Stands, world-among, AllFrom, listed-from, known-named}
use Rattle.change_parts.proofs.Planning.{flush-small}
use Rattle.change_parts.proofs.TableFacts.{tables-count}
use Rattle.pull_plan.proofs.ToldRows.{no-some, some-is, take-get, turn, follow, cloned-few, stored-behind}
use Rattle.pull_plan.proofs.Agreed.{cloned-same, all-true}

-- ---- what no mismatch means

none-first : (a b : Option PlanFault) → first_fault a b ≡ None → (a ≡ None) × (b ≡ None)
none-first None b e = (refl, e)
none-first (Some fault) b e = absurd (no-some fault e)

clone-none : (o : Option ℕ) → clone_fault o ≡ None → o ≡ None
clone-none None e = refl
clone-none (Some at) e = absurd (true≢false (ap is_some e))

row-none : (o : Option ℕ) → row_fault o ≡ None → o ≡ None
row-none None e = refl
row-none (Some at) e = absurd (true≢false (ap is_some e))

pub none-unlike : (added : List Placed) (fresh : PlainFresh) → mismatch added fresh ≡ None → first_unlike (payloads_of added) (cloned_count (payloads_of added)) fresh.cloned ≡ None
none-unlike added fresh e = clone-none (first_unlike (payloads_of added) (cloned_count (payloads_of added)) fresh.cloned) (none-first (clone_fault (first_unlike (payloads_of added) (cloned_count (payloads_of added)) fresh.cloned)) _ e).0

pub none-bad : (added : List Placed) (fresh : PlainFresh) → mismatch added fresh ≡ None → first_bad_row (payloads_of added) (cloned_count (payloads_of added)) fresh.cloned fresh.names ≡ None
none-bad added fresh e =
    row-none (first_bad_row (payloads_of added) (cloned_count (payloads_of added)) fresh.cloned fresh.names) (none-first (clone_fault (first_unlike (payloads_of added) (cloned_count (payloads_of added)) fresh.cloned)) _ e).1

-- names that fit are distinct, and none is one of those before or of the stored ones
record Fit (stored before names : List Name) : Type 0 where
  pub distinct : AreDistinct names
  pub new : (x : Name) → IsIn x names → IsIn x before → ⊥
  pub unstored : (x : Name) → IsIn x names → IsIn x stored → ⊥

fitting : (stored before : List Name) (told : CloneData) (id : ℕ) (names : List Name) → AllByRecursion (λ b. b ≡ true) (rows_fit stored before told id names) → Fit stored before names
fitting stored before told id [] h = record { distinct = tt; new = λ x i j. i; unstored = λ x i j. i }
fitting stored before told id (name ∷ names) h =
    let rest = fitting stored (before ++ name ∷ []) told (id + 1) names h.1 in
    let a = and_true (not (is_in same_name name before) && not (is_in same_name name stored)) (list_all (λ (k : KnownName). not (nat_eq k.id id) || same_name k.name name) told.names) h.0 in
    let b = and_true (not (is_in same_name name before)) (not (is_in same_name name stored)) a.0 in record {
      distinct = ((λ i. rest.new name i (in-right name before (name ∷ []) (inl refl))), rest.distinct);
      new = λ x i j. ⊎_elim (λ e. not_true (is_in same_name name before) b.0 (there same_name same_name-exact same_name-self name before (subst (λ z. IsIn z before) e j))) (λ k. rest.new x k (in-left x before (name ∷ []) j)) i;
      unstored = λ x i j. ⊎_elim (λ e. not_true (is_in same_name name stored) b.1 (there same_name same_name-exact same_name-self name stored (subst (λ z. IsIn z stored) e j))) (λ k. rest.unstored x k j) i;
    }

-- ---- the rows that were told are a history

get-one : (xs : List Name) (i j : ℕ) (x : Name) → AreDistinct xs → slice_get xs i ≡ Some x → slice_get xs j ≡ Some x → i ≡ j
get-one [] i j x d e f = absurd (no-some x (sym e))
get-one (y ∷ xs) zero zero x d e f = refl
get-one (y ∷ xs) zero (suc j) x d e f = absurd (d.0 (subst (λ z. IsIn z xs) (sym (some-is y x e)) (item-at xs j x f)))
get-one (y ∷ xs) (suc i) zero x d e f = absurd (d.0 (subst (λ z. IsIn z xs) (sym (some-is y x f)) (item-at xs i x e)))
get-one (y ∷ xs) (suc i) (suc j) x d e f = ap suc (get-one xs i j x d.1 e f)

module _ (all : List Name) (apart_all : AreDistinct all) where
  named-known : (front behind : List Name) → all ≡ front ++ behind → (ids : List ℕ) → AllByRecursion (λ p. p < length front) ids → AreAllIn (names_at_all all ids) front
  named-known front behind e [] h = tt
  named-known front behind e (n ∷ ids) h =
      let t = get-below front n h.0 in
      let at : slice_get all n ≡ Some t.0 = ap (λ l. slice_get l n) e ∙ get-front front behind n t.0 t.1 in
      subst (λ o. AreAllIn (cons_option o (names_at_all all ids)) front) (sym at) (item-at front n t.0 t.1, named-known front behind e ids h.1)

  named-back : (ids : List ℕ) (x : Name) → IsIn x (names_at_all all ids) → (n : ℕ) × IsIn n ids × (slice_get all n ≡ Some x)
  named-back [] x i = absurd i
  named-back (n ∷ ids) x i = by_name (slice_get all n) refl i (named-back ids x)
    where
      by_name : (o : Option Name) → slice_get all n ≡ o → IsIn x (cons_option o (names_at_all all ids)) → (IsIn x (names_at_all all ids) → (m : ℕ) × IsIn m ids × (slice_get all m ≡ Some x)) → (m : ℕ) × IsIn m (n ∷ ids) × (slice_get all m ≡ Some x)
      by_name None e i rec = let r = rec i in (r.0, inr r.1, r.2)
      by_name (Some y) e (inl f) rec = (n, inl refl, e ∙ ap Some (sym f))
      by_name (Some y) e (inr j) rec = let r = rec j in (r.0, inr r.1, r.2)

  named-distinct : (ids : List ℕ) → AreDistinct ids → AreDistinct (names_at_all all ids)
  named-distinct [] d = tt
  named-distinct (n ∷ ids) d = by_name (named-distinct ids d.1) (slice_get all n) refl
    where
      by_name : AreDistinct (names_at_all all ids) → (o : Option Name) → slice_get all n ≡ o → AreDistinct (cons_option o (names_at_all all ids))
      by_name rec None e = rec
      by_name rec (Some y) e = ((λ i. let r = named-back ids y i in d.0 (subst (λ z. IsIn z ids) (get-one all r.0 n y apart_all r.2 e) r.1)), rec)

  named-few : (ids : List ℕ) → length (names_at_all all ids) ≤ length ids
  named-few [] = omega arith
  named-few (n ∷ ids) = by_name (named-few ids) (slice_get all n)
    where
      by_name : length (names_at_all all ids) ≤ length ids → (o : Option Name) → length (cons_option o (names_at_all all ids)) ≤ length (n ∷ ids)
      by_name r None = omega (arith, r)
      by_name r (Some y) = omega (arith, r)

  told-history : (front names : List Name) (parents : List (List ℕ)) → all ≡ front ++ names → AllFrom Below (length front) parents → IsHistory front (rows_with all names parents)
  told-history front [] parents e h = tt
  told-history front (x ∷ names) [] e h = tt
  told-history front (x ∷ names) (ids ∷ parents) e h = (
    record {
      fresh = λ i. (distinct-parts front (x ∷ names) (subst AreDistinct e apart_all)).2 x i (inl refl);
      known = named-known front (x ∷ names) e ids h.0.0;
      distinct = named-distinct ids h.0.1;
      few = (let r = named-few ids in let f = h.0.2 in omega (arith, r, f));
    },
    told-history (front ++ x ∷ []) names parents (e ∙ sym (append_assoc front (x ∷ []) names))
        (subst (λ n. AllFrom Below n parents) (let l = length-append front (x ∷ []) in let z : length front + 1 ≡ length (front ++ x ∷ []) = omega (arith, l) in z) h.1),
  )

told-own : (place : ℕ) (ss : List Segment) → StandInTurn MayStandHere place ss → AllByRecursion (λ (s : Segment). length s.parents ≤ 8) ss → AllByRecursion (λ (s : Segment). (j : ℕ) → s.low ≡ 0 + j → Below j s.parents) ss
told-own place [] h few = tt
told-own place (s ∷ ss) h few = (
  (λ j e. (all-each (λ p. p < j) s.parents (λ p i. let b = h.0.below p i in omega (arith, b, e)), h.0.distinct, few.0)),
  told-own (s.high + 1) ss h.1 few.1,
)

-- ---- some world

take-distinct : (n : ℕ) (xs : List Name) → AreDistinct xs → AreDistinct (take n xs)
take-distinct n xs d = (distinct-parts (take n xs) (drop n xs) (subst AreDistinct (sym (take-append-drop n xs)) d)).0

filter-distinct : (f : Name → Bool) (xs : List Name) → AreDistinct xs → AreDistinct (filter f xs)
filter-distinct f [] d = tt
filter-distinct f (x ∷ xs) d = by_test (filter-distinct f xs d.1) (f x)
  where
    by_test : AreDistinct (filter f xs) → (b : Bool) → AreDistinct (cond b (x ∷ filter f xs) (filter f xs))
    by_test rec true = ((λ i. d.0 (filter-back f x xs i)), rec)
    by_test rec false = rec

filter-keeps : (f : Name → Bool) (x : Name) (xs : List Name) → IsIn x xs → f x ≡ true → IsIn x (filter f xs)
filter-keeps f x [] i e = i
filter-keeps f x (y ∷ xs) i e = by_test (λ j. filter-keeps f x xs j e) (f y) refl i
  where
    by_test : (IsIn x xs → IsIn x (filter f xs)) → (b : Bool) → f y ≡ b → IsIn x (y ∷ xs) → IsIn x (cond b (y ∷ filter f xs) (filter f xs))
    by_test rec true g (inl h) = inl h
    by_test rec true g (inr j) = inr (rec j)
    by_test rec false g (inl h) = absurd (true≢false (sym e ∙ ap f h ∙ g))
    by_test rec false g (inr j) = rec j

filter-test : (f : Name → Bool) (x : Name) (xs : List Name) → IsIn x (filter f xs) → f x ≡ true
filter-test f x [] i = absurd i
filter-test f x (y ∷ xs) i = by_test (filter-test f x xs) (f y) refl i
  where
    by_test : (IsIn x (filter f xs) → f x ≡ true) → (b : Bool) → f y ≡ b → IsIn x (cond b (y ∷ filter f xs) (filter f xs)) → f x ≡ true
    by_test rec true g (inl h) = ap f h ∙ g
    by_test rec true g (inr j) = rec j
    by_test rec false g j = rec j

filter-few : (f : Name → Bool) (xs : List Name) → length (filter f xs) ≤ length xs
filter-few f [] = omega arith
filter-few f (x ∷ xs) = by_test (filter-few f xs) (f x)
  where
    by_test : length (filter f xs) ≤ length xs → (b : Bool) → length (cond b (x ∷ filter f xs) (filter f xs)) ≤ length (x ∷ xs)
    by_test r true = omega (arith, r)
    by_test r false = omega (arith, r)

-- known names below an id
known-kept : (n : ℕ) (k : Known) (ks : List Known) → IsIn k ks → k.id < n → IsIn k.name (map (λ (q : Known). q.name) (filter (λ (q : Known). nat_lt q.id n) ks))
known-kept n k [] i lt = absurd i
known-kept n k (q ∷ ks) i lt = by_test (λ j. known-kept n k ks j lt) (nat_lt q.id n) refl i
  where
    by_test : (IsIn k ks → IsIn k.name (map (λ (c : Known). c.name) (filter (λ (c : Known). nat_lt c.id n) ks))) → (b : Bool) → nat_lt q.id n ≡ b → IsIn k (q ∷ ks) → IsIn k.name (map (λ (c : Known). c.name) (cond b (q ∷ filter (λ (c : Known). nat_lt c.id n) ks) (filter (λ (c : Known). nat_lt c.id n) ks)))
    by_test rec true e (inl f) = inl (ap (λ (c : Known). c.name) f)
    by_test rec true e (inr j) = inr (rec j)
    by_test rec false e (inl f) = absurd (true≢false (sym (lt-ltb k.id n lt) ∙ ap (λ (c : Known). nat_lt c.id n) f ∙ e))
    by_test rec false e (inr j) = rec j

in-take : (n : ℕ) (xs : List Name) (x : Name) → IsIn x (take n xs) → (i : ℕ) × (i < n) × (slice_get xs i ≡ Some x)
in-take zero xs x i = absurd i
in-take (suc n) [] x i = absurd i
in-take (suc n) (y ∷ xs) x (inl e) = (0, omega arith, ap Some (sym e))
in-take (suc n) (y ∷ xs) x (inr i) = let r = in-take n xs x i in (suc r.0, (let lt = r.1 in omega (arith, lt)), r.2)

module _ (tables : PlainTables) (bytes : List ℕ) (fresh : PlainFresh) (added : List Placed) (m : MayPullOn tables bytes fresh added) (parents : AllByRecursion (λ (s : Segment). length s.parents ≤ 8) fresh.cloned.segments)
    (few : length fresh.names ≤ 2 ^ 32) (none : mismatch added fresh ≡ None) where
  abbrev payloads : List Payload
  payloads = payloads_of added

  abbrev c : ℕ
  c = cloned_count payloads

  abbrev stored : List Name
  stored = flat_map known_names payloads ++ other_names_in (newest payloads)

  abbrev is_new : Name → Bool
  is_new x = not (is_in same_name x stored)

  abbrev row : Name → HeldRow
  row x = record { name = x; parents = [] }

  abbrev rows : List HeldRow
  rows = map row (filter is_new fresh.names)

  names : Fit (map (λ (k : Known). k.name) (filter (λ (k : Known). nat_lt k.id c) (known_in payloads))) [] fresh.names
  names = fitting (map (λ (k : Known). k.name) (filter (λ (k : Known). nat_lt k.id c) (known_in payloads))) [] fresh.cloned c fresh.names
      (all-true c (rows_fit (map (λ (k : Known). k.name) (filter (λ (k : Known). nat_lt k.id c) (known_in payloads))) [] fresh.cloned c fresh.names) (none-bad added fresh none))

  rows-named : (some : List Name) → row_names (map row some) ≡ some
  rows-named [] = refl
  rows-named (x ∷ some) = ap (λ l. x ∷ l) (rows-named some)

  none-parents : (n k : ℕ) (some : List Name) → AllRows (Behind n) k (map row some)
  none-parents n k [] = tt
  none-parents n k (x ∷ some) = ((tt, tt, lit≤ tt), none-parents n (k + 1) some)

  fit : FitAmong payloads rows
  fit = record {
    parents = none-parents (count_after 0 payloads) (length (other_names_in (newest payloads))) (filter is_new fresh.names);
    distinct = subst AreDistinct (sym (rows-named (filter is_new fresh.names))) (filter-distinct is_new fresh.names names.distinct);
    few = (let a = filter-few is_new fresh.names in let b = length-map (filter is_new fresh.names) row in omega (arith, a, b, few));
    new = λ x i s. not_true (is_in same_name x stored) (filter-test is_new x fresh.names (subst (IsIn x) (rows-named (filter is_new fresh.names)) i))
        (there same_name same_name-exact same_name-self x stored
        (⊎_elim (λ j. in-left x (flat_map known_names payloads) (other_names_in (newest payloads)) j) (λ j. in-right x (flat_map known_names payloads) (other_names_in (newest payloads)) j) s));
  }

  st : Stands payloads rows
  st = world-among payloads m.tables_of.lawful rows fit

  abbrev w : World Name
  w = st.of_world

  cloned_in : c ≤ length w.master
  cloned_in = let a = cloned-few payloads m.tables_of.lawful in let b = st.stand.count in omega (arith, a, b)

  pending-named : names_of st.pending ≡ filter is_new fresh.names
  pending-named = sym (ap row_names st.rows_are ∙ id-names st.pending) ∙ rows-named (filter is_new fresh.names)
    where
      id-names : (some : List (Row Name)) → row_names (map (held_row (with_pending w st.pending)) some) ≡ names_of some
      id-names [] = refl
      id-names (r ∷ some) = ap (λ l. r.name ∷ l) (id-names some)

  master-apart : AreDistinct (names_of w.master) × AreDistinct (names_of w.others ++ names_of st.pending) × ((x : Name) → IsIn x (names_of w.master) → IsIn x (names_of w.others ++ names_of st.pending) → ⊥)
  master-apart = distinct-parts (names_of w.master) (names_of w.others ++ names_of st.pending)
      (subst AreDistinct (map-append (λ (r : Row Name). r.name) w.master (w.others ++ st.pending) ∙ ap (λ l. names_of w.master ++ l) (map-append (λ (r : Row Name). r.name) w.others st.pending))
      (history-distinct [] (w.master ++ (w.others ++ st.pending)) st.view).0)

  -- no fetched name is that of a cloned row
  names-apart : (x : Name) → IsIn x (take c (names_of w.master)) → IsIn x fresh.names → ⊥
  names-apart x i j =
      let at = in-take c (names_of w.master) x i in
      let here = item-at (names_of w.master) at.0 x at.2 in
      by_test at.0 at.1 at.2 here (is_in same_name x stored) refl
    where
      in-others : (names : List Name) → IsIn x (names_of w.master) → IsIn x names → names ≡ names_of w.others → ⊥
      in-others names here o e = master-apart.2 x here (in-left x (names_of w.others) (names_of st.pending) (subst (IsIn x) e o))

      by_test : (n : ℕ) → n < c → slice_get (names_of w.master) n ≡ Some x → IsIn x (names_of w.master) → (b : Bool) → is_in same_name x stored ≡ b → ⊥
      by_test n lt at here false e =
          master-apart.2 x here (in-right x (names_of w.others) (names_of st.pending) (subst (IsIn x) (sym pending-named) (filter-keeps is_new x fresh.names j (ap not e))))
      by_test n lt at here true e = ⊎_elim
          (λ k.
          let q = map-in-back (λ (k : Known). k.name) x (known_in payloads) (subst (IsIn x) (sym (known-named payloads)) k) in
          let own = each (λ (k : Known). slice_get (names_of w.master) k.id ≡ Some k.name) (known_in payloads) st.stand.known q.0 q.1 in
          let same : q.0.id ≡ n = get-one (names_of w.master) q.0.id n x master-apart.0 (own ∙ ap Some (sym q.2)) at in
          names.unstored x j (subst (λ z. IsIn z (map (λ (k : Known). k.name) (filter (λ (k : Known). nat_lt k.id c) (known_in payloads)))) (sym q.2) (known-kept c q.0 (known_in payloads) q.1 (omega (arith, same, lt)))))
          (λ o. in-others (other_names_in (newest payloads)) here o st.stand.names)
          (in-append x (flat_map known_names payloads) (other_names_in (newest payloads)) (found same_name same_name-exact same_name-self x stored e))

  all-apart : AreDistinct (told_names w c fresh.names)
  all-apart = distinct-join (take c (names_of w.master)) fresh.names (take-distinct c (names_of w.master) master-apart.0) names.distinct names-apart

  abbrev told : List (Row Name)
  told = told_rows w c fresh

  told-is : IsHistory [] told
  told-is = told-history (told_names w c fresh.names) all-apart [] (told_names w c fresh.names) (parents_listed fresh.cloned.segments) refl
      (listed-from Below 0 (λ k. ((omega arith, tt), ((λ i. i), tt), lit≤ tt)) 0 (place_behind 0 fresh.cloned.segments) fresh.cloned.segments (follow w c fresh m.unbroken m.count cloned_in)
      (told-own 0 fresh.cloned.segments (turn w c fresh m.unbroken m.count cloned_in) parents))

  pub some-told : (v : World Name) × (theirs : List (Row Name)) × (t : MayTake tables bytes fresh v theirs) × (t.added ≡ added)
  some-told = (
    w,
    told,
    record { added = added; may = m; stand_for = st.stand; world = st.named; rows_are = refl; theirs = master-world told told-is },
    refl,
  )

-- ---- the walk beside a world

module _ (tables : PlainTables) (bytes : List ℕ) (fresh : PlainFresh) (w : World Name) (rows : List (Row Name)) (t : MayTake tables bytes fresh w rows) (none : mismatch t.added fresh ≡ None) where
  abbrev cloned : ℕ
  cloned = cloned_count (payloads_of t.added)

  front : cloned ≤ length w.master
  front = let a = cloned-few (payloads_of t.added) t.may.tables_of.lawful in let b = t.stand_for.count in omega (arith, a, b)

  pub rows-same : take cloned rows ≡ take cloned w.master
  rows-same = ap (take cloned) t.rows_are ∙ cloned-same (payloads_of t.added) w t.stand_for t.world.world fresh t.may.unbroken t.may.count front (none-unlike t.added fresh none)

  stored-name : (name : Name) → IsIn name (names_of (drop cloned rows)) → IsIn name (names_of (rows_of w)) → IsStored t.added name
  stored-name name i j = ⊎_elim in-master in-others (in-append name (names_of w.master) (names_of w.others) (subst (IsIn name) (map-append (λ (r : Row Name). r.name) w.master w.others) j))
    where
      in-others : IsIn name (names_of w.others) → IsStored t.added name
      in-others o = subst (IsIn name) (sym (stored-names t.added))
          (in-right name (flat_map known_names (payloads_of t.added)) (other_names_in (newest (payloads_of t.added))) (subst (IsIn name) (sym t.stand_for.names) o))

      in-master : IsIn name (names_of w.master) → IsStored t.added name
      in-master o =
          let at = at-name w.master name o in
          let get : slice_get (names_of w.master) at.0 ≡ Some name = get-map (λ (r : Row Name). r.name) w.master at.0 at.1 at.2 ∙ ap Some at.3 in
          ⊎_elim
          (λ (ge : cloned ≤ at.0). stored-behind t.added w t.may.tables_of.lawful t.stand_for at.0 name ge get)
          (λ (lt : at.0 < cloned).
          let here : slice_get (take cloned rows) at.0 ≡ Some at.1 = ap (λ l. slice_get l at.0) rows-same ∙ take-get w.master cloned at.0 lt ∙ at.2 in
          let behind = at-name (drop cloned rows) name i in
          absurd (apart (names_of (take cloned rows)) (drop cloned rows) behind.0 behind.1
          (history-rest [] (take cloned rows) (drop cloned rows) (subst (IsHistory []) (sym (take-append-drop cloned rows)) (world-master rows t.theirs))) behind.2
          (subst (λ z. IsIn z (names_of (take cloned rows))) (at.3 ∙ sym behind.3) (in-map (λ (r : Row Name). r.name) at.1 (take cloned rows) (item-at (take cloned rows) at.0 at.1 here)))))
          (le_or_lt cloned at.0)

  pub may-walk : (newest : BaseRef) (flats : List Segment) → IsBaseOf newest t.added → AreSegmentsOf w flats → MayWalk newest flats cloned fresh w rows
  may-walk newest flats base segments = record {
    beside = record {
      added = t.added;
      base_of = base;
      stand_for = t.stand_for;
      world = t.world.world;
      segments = segments;
      small = flush-small tables bytes t.added w t.may.tables_of t.may.stand t.stand_for;
      theirs = t.theirs;
      cloned_few = front;
      cloned_rows = rows-same;
      stored = stored-name;
    };
    rows_are = t.rows_are;
    unbroken = t.may.unbroken;
    count = t.may.count;
  }

  -- no rows behind the world's own
  pub own-others : (first : ℕ) → first ≡ tables.others.count → first ≡ length w.others
  own-others first e = e ∙ tables-count tables bytes t.added t.may.tables_of t.may.stand ∙ ap (length {A = Name}) t.stand_for.names ∙ names-length w.others

  alone : with_pending w [] ≡ w
  alone = ap (λ o. record { master = w.master; others = o }) (append-nil w.others)

  pub none-behind : (nothing : PlainPending) → HoldsRows nothing [] → nothing.first ≡ tables.others.count → ArePending w nothing []
  none-behind nothing held e = record { first = own-others nothing.first e; held = held; view = subst (IsWorld {N = Name}) (sym alone) t.world.world }

  -- the walk over the view of the newest base
  pub walk-over : (newest : BaseRef) (flats : List Segment) (nothing : PlainPending) → HoldsRows nothing [] → nothing.first ≡ tables.others.count → IsBaseOf newest t.added
      → ((added : List Placed) (v : World Name) (some : List (Row Name)) → IsBaseOf newest added → StandFor (payloads_of added) v → ArePending v nothing some → AreSegmentsOf (with_pending v some) flats)
      → (n : ℕ) → n ≡ cloned → MayWalk newest flats n fresh w rows
  walk-over newest flats nothing held e base graph n is =
      subst (λ k. MayWalk newest flats k fresh w rows) (sym is)
      (may-walk newest flats base (subst (λ v. AreSegmentsOf v flats) alone (graph t.added w [] base t.stand_for (none-behind nothing held e))))

-- a fault of the walk, behind the test that nothing disagrees
pub walk-fault : (added : List Placed) (fresh : PlainFresh) (conflict : Option PlanFault) (fault : PlanFault) → mismatch added fresh ≡ None → (fault ≡ Memory) ⊎ (conflict ≡ Some fault)
    → (fault ≡ Memory) ⊎ ((mismatch added fresh ≡ Some fault) ⊎ ((mismatch added fresh ≡ None) × (conflict ≡ Some fault)))
walk-fault added fresh conflict fault none (inl e) = inl e
walk-fault added fresh conflict fault none (inr e) = inr (inr (none, e))
