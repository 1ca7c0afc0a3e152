-- The names of an answer, as they are lent.
use Rattle.std.proofs.Common.{◌≡◌, ◌<◌, ◌≤◌, ◌+◌, ◌-◌, ◌*◌, ◌^◌, ℕ, zero, suc, Bool, true, false, not, ◌&&◌, ◌||◌, Option, Some, None, is_some, List, [], ◌∷◌, ◌++◌, map, flat_map, drop, length, slice_get, nat_eq, nat_lt, nat_le, refl, sym, ap, ap₂, ◌∙◌, subst, inl, inr, ⊎_elim, arith, true≢false, if◌then◌else◌}
use Rattle.std.proofs.lemmas.Bool.{cases_eq, eq-eqb, ne_eqb}
use Rattle.std.proofs.lemmas.Bool.Decides.{nat_tests}
use Rattle.std.proofs.lemmas.List.{map-append, length-map}
use Rattle.id_groups.specs.Lists.{IsIn, AreAllIn, is_in}
use Rattle.id_groups.specs.Name.{Name, same_name}
use Rattle.id_groups.specs.Id.{other_id}
use Rattle.id_groups.proofs.Listing.{and_true, found}
use Rattle.id_groups.proofs.Names.{same_name-exact, same_name-self}
use Rattle.commit_graph.specs.World.{Row, World, names_of, rows_of, with_pending}
use Rattle.commit_graph.specs.Ids.{id_in, place_of}
use Rattle.commit_graph.proofs.Histories.{in-append}
use Rattle.commit_graph.proofs.Down.{in-right}
use Rattle.commit_graph.proofs.Places.{at-name, id-in-master, id-in-others, place-right}
use Rattle.batch_codec.specs.Payload.{Known, Payload}
use Rattle.name_map.specs.Added.{Placed, payloads_of, known_of}
use Rattle.change_rules.specs.Change.{known_from}
use Rattle.change_rules.specs.Lazy.{is_lazy}
use Rattle.change_rules.specs.Tables.{known_in, newest, other_names_in}
use Rattle.payload_tables.specs.declared.base.BaseRef.{BaseRef}
use Rattle.payload_tables.specs.Bases.{stored_in, held_row}
use Rattle.payload_tables.specs.Pending.{HeldRow, PlainPending}
use Rattle.payload_tables.proofs.Naming.{places-many}
use Rattle.store_plans.specs.Looking.{Sees, found_in}
use Rattle.store_queries.specs.Names.{name_among, name_at, stored_at, name_or, name_in, pending_name, named_front, fetched_name}
use Rattle.store_queries.specs.Names.{known_name}
use Rattle.lazy_names.specs.declared.fetched.FetchedName.{FetchedName}
use Rattle.remote_rules.specs.CloneData.{KnownName}
use Rattle.store_plans.proofs.StoredNames.{known-all, stored-id, base-there}
use Rattle.store_queries.proofs.QueryNames.{stored-are, among-in, stored-name, row-here}
use Rattle.store_queries.proofs.QueryGraph.{one-id}
use Rattle.store_queries.proofs.QueryAnswers.{few-masters}

-- ---- one more name

pub front-some : (base : BaseRef) (pending : PlainPending) (name : Name) (fetched : List Name) (id : ℕ) (ids : List ℕ) → name_in base pending id ≡ Some name → named_front base pending fetched (id ∷ ids) ≡ name ∷ named_front base pending fetched ids
front-some base pending name fetched id ids e = rw e refl

pub front-none : (base : BaseRef) (pending : PlainPending) (name : Name) (fetched : List Name) (id : ℕ) (ids : List ℕ) → name_in base pending id ≡ None → named_front base pending (name ∷ fetched) (id ∷ ids) ≡ name ∷ named_front base pending fetched ids
front-none base pending name fetched id ids e = rw e refl

front-end : (base : BaseRef) (pending : PlainPending) (id : ℕ) (ids : List ℕ) → name_in base pending id ≡ None → named_front base pending [] (id ∷ ids) ≡ []
front-end base pending id ids e = rw e refl

drop-at : {X : Type 0} (xs : List X) (n : ℕ) (x : X) → slice_get xs n ≡ Some x → drop n xs ≡ x ∷ drop (suc n) xs
drop-at [] n x e = absurd (true≢false (sym (ap is_some e)))
drop-at (y ∷ xs) zero x e = let is : y ≡ x = cc in ap (λ z. z ∷ xs) is
drop-at (y ∷ xs) (suc n) x e = drop-at xs n x e

drop-end : {X : Type 0} (xs : List X) (n : ℕ) → slice_get xs n ≡ None → drop n xs ≡ []
drop-end [] zero e = refl
drop-end [] (suc n) e = refl
drop-end (y ∷ xs) zero e = absurd (true≢false (ap is_some e))
drop-end (y ∷ xs) (suc n) e = drop-end xs n e

-- the next name is one that was fetched
pub next-fetched : (base : BaseRef) (pending : PlainPending) (fetched : List Name) (n : ℕ) (name : Name) (id : ℕ) (left rest : List ℕ) → left ≡ id ∷ rest → name_in base pending id ≡ None → slice_get fetched n ≡ Some name
    → named_front base pending (drop n fetched) left ≡ name ∷ named_front base pending (drop (n + 1) fetched) rest
next-fetched base pending fetched n name id left rest are none at =
    ap₂ (λ l ids. named_front base pending l ids) (drop-at fetched n name at) are ∙ front-none base pending name (drop (suc n) fetched) id rest none
    ∙ ap (λ m. name ∷ named_front base pending (drop m fetched) rest) (let z : suc n ≡ n + 1 = omega arith in z)

-- there is none
pub none-fetched : (base : BaseRef) (pending : PlainPending) (fetched : List Name) (n : ℕ) (id : ℕ) (left rest : List ℕ) → left ≡ id ∷ rest → name_in base pending id ≡ None → slice_get fetched n ≡ None
    → named_front base pending (drop n fetched) left ≡ []
none-fetched base pending fetched n id left rest are none at =
    ap₂ (λ l ids. named_front base pending l ids) (drop-end fetched n at) are ∙ front-end base pending id rest none

-- ---- names that were fetched

pub mapped-at : (fs : List FetchedName) (n : ℕ) → n < length fs → (x : Name) → ((f : FetchedName) → slice_get fs n ≡ Some f → x ≡ f.name) → Some x ≡ slice_get (map fetched_name fs) n
mapped-at [] n lt x h = absurd (omega (arith, lt))
mapped-at (f ∷ fs) zero lt x h = ap Some (h f refl)
mapped-at (f ∷ fs) (suc n) lt x h = mapped-at fs n (omega (arith, lt)) x h

pub mapped-none : (fs : List FetchedName) (n : ℕ) → length fs ≤ n → None ≡ slice_get (map fetched_name fs) n
mapped-none [] zero le = refl
mapped-none [] (suc n) le = refl
mapped-none (f ∷ fs) zero le = absurd (omega (arith, le))
mapped-none (f ∷ fs) (suc n) le = mapped-none fs n (omega (arith, le))

pub known-names : (fs : List FetchedName) → map fetched_name fs ≡ map (λ (k : KnownName). k.name) (map known_name fs)
known-names [] = refl
known-names (f ∷ fs) = ap (λ l. f.name ∷ l) (known-names fs)

-- ---- ids among known ones

among-front : (id from : ℕ) (names : List Name) (known : List Known) → id < from → name_among (known ++ known_from from names) id ≡ name_among known id
among-front id from [] [] lt = refl
among-front id from (x ∷ names) [] lt = ap (λ b. if b then Some x else name_among (known_from (from + 1) names) id) (ne_eqb from id (λ e. absurd (omega (arith, lt, e))))
    ∙ among-front id (from + 1) names [] (omega (arith, lt))
among-front id from names (k ∷ known) lt = ap (λ o. if nat_eq k.id id then Some k.name else o) (among-front id from names known lt)

among-known : (known : List Known) (id : ℕ) → is_some (name_among known id) ≡ is_in nat_eq id (map (λ (k : Known). k.id) known)
among-known [] id = refl
among-known (k ∷ known) id = ⊎_elim
    (λ (e : k.id ≡ id). ap (λ b. is_some (if b then Some k.name else name_among known id)) (eq-eqb k.id id e)
    ∙ sym (ap (λ b. b || is_in nat_eq id (map (λ (q : Known). q.id) known)) (eq-eqb id k.id (sym e))))
    (λ (ne : k.id ≡ id → ⊥). ap (λ b. is_some (if b then Some k.name else name_among known id)) (ne_eqb k.id id ne) ∙ among-known known id
    ∙ sym (ap (λ b. b || is_in nat_eq id (map (λ (q : Known). q.id) known)) (ne_eqb id k.id (λ e. ne (sym e)))))
    (cases_eq k.id id)

get-less : (xs : List (Row Name)) (k : ℕ) (r : Row Name) → slice_get xs k ≡ Some r → k < length xs
get-less [] k r e = cc
get-less (q ∷ xs) zero r e = omega arith
get-less (q ∷ xs) (suc k) r e = let l = get-less xs k r e in omega (arith, l)

not-not : (b : Bool) → not (not b) ≡ b
not-not true = refl
not-not false = refl

-- whether the id has a stored name, or is none of master's
abbrev is_named_id : List Known → ℕ → Bool
is_named_id stored id = nat_le (2 ^ 56) id || is_some (name_among stored id)

-- whether the name is that of a master id without a stored name
abbrev is_lazy_name : List Payload → World Name → Name → Bool
is_lazy_name payloads w name = is_in same_name name (names_of w.master) && is_lazy payloads w (id_in same_name w name)

-- ---- names of the view

module _ (base : BaseRef) (pending : PlainPending) (added : List Placed) (w : World Name) (rows : List (Row Name)) (s : Sees base pending added w rows) where
  few : length w.master ≤ 2 ^ 32
  few = few-masters base pending added w rows s

  abbrev view : World Name
  view = with_pending w rows

  -- whether the id of a name has a stored name
  pub named-same : (name : Name) → IsIn name (names_of (rows_of (with_pending w rows))) → is_named_id (stored_at base) (id_in same_name (with_pending w rows) name) ≡ not (is_lazy_name (payloads_of added) w name)
  named-same name i = by_group (is_in same_name name (names_of w.master)) refl
    where
      by_group : (b : Bool) → is_in same_name name (names_of w.master) ≡ b → is_named_id (stored_at base) (id_in same_name (with_pending w rows) name) ≡ not (is_lazy_name (payloads_of added) w name)
      by_group false e =
          let place = place_of same_name name (names_of (w.others ++ rows)) in
          let id : id_in same_name (with_pending w rows) name ≡ other_id place = ap (λ b. if b then place_of same_name name (names_of w.master) else other_id place) e in
          let over : nat_le (2 ^ 56) (other_id place) ≡ true = grind (arith, nat_tests) in
          ap (λ n. nat_le (2 ^ 56) n || is_some (name_among (stored_at base) n)) id ∙ ap (λ b. b || is_some (name_among (stored_at base) (other_id place))) over
          ∙ sym (ap (λ b. not (b && is_lazy (payloads_of added) w (id_in same_name w name))) e)
      by_group true e =
          let t = at-name w.master name (found same_name same_name-exact same_name-self name (names_of w.master) e) in
          let place = place_of same_name name (names_of w.master) in
          let id : id_in same_name (with_pending w rows) name ≡ place = ap (λ b. if b then place_of same_name name (names_of w.master) else other_id (place_of same_name name (names_of (w.others ++ rows)))) e in
          let own : id_in same_name w name ≡ place = ap (λ b. if b then place_of same_name name (names_of w.master) else other_id (place_of same_name name (names_of w.others))) e in
          let at : place ≡ t.0 = sym own ∙ ap (id_in same_name w) (sym t.3) ∙ id-in-master same_name same_name-exact same_name-self w s.world.world t.0 t.1 t.2 in
          let lt : place < length w.master = let l = get-less w.master t.0 t.1 t.2 in omega (arith, l, at) in
          let f = few in
          let under : nat_le (2 ^ 56) place ≡ false = grind (arith, nat_tests, lt, f) in
          let within : nat_lt place (length w.master) ≡ true = grind (arith, nat_tests, lt) in
          let known : is_some (name_among (stored_at base) place) ≡ is_in nat_eq place (map (λ (k : Known). k.id) (known_in (payloads_of added))) =
          ap (λ l. is_some (name_among l place)) (stored-are base added s.base_of)
          ∙ ap is_some (among-front place (2 ^ 56) (other_names_in (newest (payloads_of added))) (known_of added) (omega (arith, lt, f)))
          ∙ among-known (known_of added) place ∙ ap (λ l. is_in nat_eq place (map (λ (k : Known). k.id) l)) (known-all added) in
          ap (λ n. nat_le (2 ^ 56) n || is_some (name_among (stored_at base) n)) id
          ∙ ap (λ b. b || is_some (name_among (stored_at base) place)) under ∙ known ∙ sym (not-not (is_in nat_eq place (map (λ (k : Known). k.id) (known_in (payloads_of added)))))
          ∙ sym (ap (λ b. not (b && is_lazy (payloads_of added) w (id_in same_name w name))) e
          ∙ ap (λ n. not (is_lazy (payloads_of added) w n)) own
          ∙ ap (λ b. not (b && not (is_in nat_eq place (map (λ (k : Known). k.id) (known_in (payloads_of added)))))) within)

  -- the name of an id of the view
  pub name-known : (name : Name) → IsIn name (names_of (rows_of (with_pending w rows))) → is_lazy_name (payloads_of added) w name ≡ false
      → name_in base pending (id_in same_name (with_pending w rows) name) ≡ Some name
  name-known name i fine = by_among (name_among (stored_at base) (id_in same_name (with_pending w rows) name)) refl
    where
      by_among : (o : Option Name) → name_among (stored_at base) (id_in same_name (with_pending w rows) name) ≡ o → name_in base pending (id_in same_name (with_pending w rows) name) ≡ Some name
      by_among (Some n) e =
          let id = id_in same_name (with_pending w rows) name in
          let k = among-in (stored_in added) id n (sym (ap (λ l. name_among l id) (stored-are base added s.base_of)) ∙ e) in
          let is = stored-id added w s.stand rows s.view.world (record { id = id; name = n }) k in
          let same : n ≡ name = one-id (with_pending w rows) s.view.world few n name (base-there added w s.stand rows s.view.world n is.0) i (sym is.1) in
          ap (λ o. name_or o (pending_name pending id)) e ∙ ap Some same
      by_among None e =
          let id = id_in same_name (with_pending w rows) name in
          ap (λ o. name_or o (pending_name pending id)) e ∙ sym (⊎_elim
          (λ j. absurd (true≢false (sym master-named ∙ master-false j)))
          (λ j. ⊎_elim (λ k. absurd (other-there k)) (λ k. pending-there k)
          (in-append name (names_of w.others) (names_of rows) (subst (IsIn name) (map-append (λ (r : Row Name). r.name) w.others rows) j)))
          (in-append name (names_of w.master) (names_of (w.others ++ rows)) (subst (IsIn name) (map-append (λ (r : Row Name). r.name) w.master (w.others ++ rows)) i)))
        where
          master-named : is_named_id (stored_at base) (id_in same_name (with_pending w rows) name) ≡ true
          master-named = named-same name i ∙ ap not fine

          master-false : IsIn name (names_of w.master) → is_named_id (stored_at base) (id_in same_name (with_pending w rows) name) ≡ false
          master-false j =
              let t = at-name w.master name j in
              let at : id_in same_name (with_pending w rows) name ≡ t.0 = ap (id_in same_name (with_pending w rows)) (sym t.3) ∙ id-in-master same_name same_name-exact same_name-self (with_pending w rows) s.view.world t.0 t.1 t.2 in
              let lt = get-less w.master t.0 t.1 t.2 in
              let f = few in
              let under : nat_le (2 ^ 56) (id_in same_name (with_pending w rows) name) ≡ false = grind (arith, nat_tests, lt, f, at) in
              ap₂ (λ b o. b || is_some o) under e

          names-get : (xs : List (Row Name)) (k : ℕ) (r : Row Name) → slice_get xs k ≡ Some r → slice_get (names_of xs) k ≡ Some r.name
          names-get [] k r e = absurd (cc e)
          names-get (q ∷ xs) zero r e = let x : q ≡ r = cc e in ap (λ (z : Row Name). Some z.name) x
          names-get (q ∷ xs) (suc k) r e = names-get xs k r e

          others-in : (from : ℕ) (names : List Name) (k : ℕ) (x : Name) → slice_get names k ≡ Some x → IsIn {X = Known} (record { id = from + k; name = x }) (known_from from names)
          others-in from [] k x e = absurd (cc e)
          others-in from (y ∷ names) zero x e = inl (ap₂ {C = Known} (λ n m. record { id = n; name = m }) (let z : from + 0 ≡ from = omega arith in z) (let z : y ≡ x = cc e in sym z))
          others-in from (y ∷ names) (suc k) x e = inr (subst (λ n. IsIn {X = Known} (record { id = n; name = x }) (known_from (from + 1) names)) (let z : from + 1 + k ≡ from + suc k = omega arith in z) (others-in (from + 1) names k x e))

          other-there : IsIn name (names_of w.others) → ⊥
          other-there k =
              let t = at-name w.others name k in
              let at : id_in same_name (with_pending w rows) name ≡ other_id t.0 = ap (id_in same_name (with_pending w rows)) (sym t.3)
              ∙ id-in-others same_name same_name-exact same_name-self (with_pending w rows) s.view.world t.0 t.1 (left w.others rows t.0 t.1 t.2) in
              let there = stored-name base added s.base_of (other_id t.0) name
              (in-right (record { id = other_id t.0; name = name }) (known_of added) (known_from (2 ^ 56) (other_names_in (newest (payloads_of added))))
              (others-in (2 ^ 56) (other_names_in (newest (payloads_of added))) t.0 name
              (ap (λ l. slice_get l t.0) s.stand.names ∙ names-get w.others t.0 t.1 t.2 ∙ ap Some t.3))) in
              let clash : None ≡ Some name = sym e ∙ ap (name_among (stored_at base)) at ∙ there in
              cc clash
            where
              left : (xs ys : List (Row Name)) (i : ℕ) (r : Row Name) → slice_get xs i ≡ Some r → slice_get (xs ++ ys) i ≡ Some r
              left [] ys i r h = cc
              left (x ∷ xs) ys zero r h = h
              left (x ∷ xs) ys (suc i) r h = left xs ys i r h

          id-row-get : (xs : List (Row Name)) (k : ℕ) (r : Row Name) (q : HeldRow) → slice_get xs k ≡ Some r → slice_get (map (held_row (with_pending w rows)) xs) k ≡ Some q → r.name ≡ q.name
          id-row-get [] k r q e g = absurd (cc e)
          id-row-get (x ∷ xs) zero r q e g = let a : x ≡ r = cc e in let b : held_row (with_pending w rows) x ≡ q = cc g in sym (ap (λ (z : Row Name). z.name) a) ∙ ap (λ (z : HeldRow). z.name) b
          id-row-get (x ∷ xs) (suc k) r q e g = id-row-get xs k r q e g

          pending-there : IsIn name (names_of rows) → Some name ≡ pending_name pending (id_in same_name (with_pending w rows) name)
          pending-there k =
              let t = at-name rows name k in
              let at : id_in same_name (with_pending w rows) name ≡ other_id (length w.others + t.0) = ap (id_in same_name (with_pending w rows)) (sym t.3)
              ∙ id-in-others same_name same_name-exact same_name-self (with_pending w rows) s.view.world (length w.others + t.0) t.1 (place-right w.others rows t.0 t.1 t.2) in
              let first = s.pending_rows.first in
              let many = places-many pending (map (held_row (with_pending w rows)) rows) s.pending_rows.held in
              let long = length-map rows (held_row (with_pending w rows)) in
              let lt = get-less rows t.0 t.1 t.2 in
              row-here pending (map (held_row (with_pending w rows)) rows) s.pending_rows.held (id_in same_name (with_pending w rows) name) t.0 (omega (arith, at, first)) (omega (arith, many, long, lt)) name
              (λ q g. sym t.3 ∙ id-row-get rows t.0 t.1 q t.2 g)

  -- a commit of master without a stored name is no pending row either
  name-none : (name : Name) → IsIn name (names_of (rows_of (with_pending w rows))) → is_lazy_name (payloads_of added) w name ≡ true → name_in base pending (id_in same_name (with_pending w rows) name) ≡ None
  name-none name i lazy =
      let id = id_in same_name (with_pending w rows) name in
      let parts = and_true (is_in same_name name (names_of w.master)) (is_lazy (payloads_of added) w (id_in same_name w name)) lazy in
      let t = at-name w.master name (found same_name same_name-exact same_name-self name (names_of w.master) parts.0) in
      let at : id ≡ t.0 = ap (id_in same_name (with_pending w rows)) (sym t.3) ∙ id-in-master same_name same_name-exact same_name-self (with_pending w rows) s.view.world t.0 t.1 t.2 in
      let lt = get-less w.master t.0 t.1 t.2 in
      let f = few in
      let unnamed = named-same name i ∙ ap not lazy in
      let early : nat_lt id (2 ^ 56 + pending.first) ≡ true = grind (arith, nat_tests, lt, f, at) in
      ap₂ (λ o b. name_or o (if b then None else if nat_lt (id - (2 ^ 56 + pending.first)) (length pending.places) then Some (name_at pending.names (20 * (id - (2 ^ 56 + pending.first)))) else None))
      (no-stored (name_among (stored_at base) id) (nat_le (2 ^ 56) id) unnamed) early
    where
      no-stored : (o : Option Name) (b : Bool) → (b || is_some o) ≡ false → o ≡ None
      no-stored None b h = refl
      no-stored (Some n) true h = absurd (true≢false h)
      no-stored (Some n) false h = absurd (true≢false h)

  -- names in the order of their ids, of which those without a stored one were fetched
  pub names-lent : (names : List Name) → AreAllIn names (names_of (rows_of (with_pending w rows)))
      → named_front base pending (map (λ (k : KnownName). k.name) (flat_map (found_in (payloads_of added) w) names)) (map (id_in same_name (with_pending w rows)) names) ≡ names
  names-lent [] a = refl
  names-lent (name ∷ names) a = by_test (is_lazy_name (payloads_of added) w name) refl (names-lent names a.1)
    where
      more : List Name
      more = map (λ (k : KnownName). k.name) (flat_map (found_in (payloads_of added) w) names)

      by_test : (b : Bool) → is_lazy_name (payloads_of added) w name ≡ b
          → named_front base pending (map (λ (k : KnownName). k.name) (flat_map (found_in (payloads_of added) w) names)) (map (id_in same_name (with_pending w rows)) names) ≡ names
          → named_front base pending (map (λ (k : KnownName). k.name) (found_in (payloads_of added) w name ++ flat_map (found_in (payloads_of added) w) names))
          (id_in same_name (with_pending w rows) name ∷ map (id_in same_name (with_pending w rows)) names) ≡ name ∷ names
      by_test true e rec =
          ap (λ (b : Bool). named_front base pending (map (λ (k : KnownName). k.name) ((if b then record { id = id_in same_name w name; name = name } ∷ [] else []) ++ flat_map (found_in (payloads_of added) w) names))
          (id_in same_name (with_pending w rows) name ∷ map (id_in same_name (with_pending w rows)) names)) e
          ∙ front-none base pending name more (id_in same_name (with_pending w rows) name) (map (id_in same_name (with_pending w rows)) names) (name-none name a.0 e) ∙ ap (λ l. name ∷ l) rec
      by_test false e rec =
          ap (λ (b : Bool). named_front base pending (map (λ (k : KnownName). k.name) ((if b then record { id = id_in same_name w name; name = name } ∷ [] else []) ++ flat_map (found_in (payloads_of added) w) names))
          (id_in same_name (with_pending w rows) name ∷ map (id_in same_name (with_pending w rows)) names)) e
          ∙ front-some base pending name more (id_in same_name (with_pending w rows) name) (map (id_in same_name (with_pending w rows)) names) (name-known name a.0 e) ∙ ap (λ l. name ∷ l) rec
