-- The stored names of a base, as ids and names of the world for which its payloads stand.
use Rattle.std.proofs.Common.{◌≡◌, ◌<◌, ◌≤◌, ◌+◌, ◌^◌, ℕ, zero, suc, ◌⊎◌, inl, inr, Bool, true, false, not, ◌&&◌, List, [], ◌∷◌, ◌++◌, length, map, filter, flat_map, nat_eq, nat_lt, Option, Some, None, slice_get, is_some, refl, sym, ap, ap₂, subst, ◌∙◌, ⊎_elim, arith, true≢false, if◌then◌else◌, zero-le, lit≤}
use Rattle.std.specs.List.{range_with_len}
use Rattle.std.proofs.lemmas.List.{map-append}
use Rattle.std.proofs.lemmas.Bool.{lt-ltb}
use Rattle.std.proofs.Math.Nat.{eq-or-lt_of_le}
use Rattle.id_groups.specs.Lists.{IsIn, is_in}
use Rattle.id_groups.specs.Name.{Name, same_name}
use Rattle.id_groups.specs.Id.{other_id}
use Rattle.id_groups.proofs.Names.{same_name-exact, same_name-self}
use Rattle.id_groups.proofs.Listing.{found, there, in-any}
use Rattle.commit_graph.specs.World.{Row, World, IsWorld, names_of, rows_of, with_pending}
use Rattle.commit_graph.specs.Ids.{id_in}
use Rattle.commit_graph.proofs.Histories.{in-append}
use Rattle.commit_graph.proofs.Down.{in-left, in-right}
use Rattle.commit_graph.proofs.Naming.{each}
use Rattle.commit_graph.proofs.Places.{id-in-master, id-in-others, name-at, at-name, place-left, place-right}
use Rattle.batch_codec.specs.Payload.{Payload, Known, known_names}
use Rattle.name_map.specs.Added.{Placed, payloads_of, known_of}
use Rattle.change_rules.specs.Change.{known_from}
use Rattle.change_rules.specs.Lazy.{is_lazy, has_lazy, stored_names}
use Rattle.change_rules.specs.Tables.{StandFor, newest, other_names_in, known_in}
use Rattle.payload_tables.specs.Pending.{row_names, FindsRow}
use Rattle.payload_tables.specs.Bases.{held_row, stored_in}
use Rattle.payload_tables.proofs.Lists.{get-below, names-length, same-self, same-exact}
use Rattle.payload_tables.proofs.Naming.{get-in, name-of-row}
use Rattle.name_map.specs.Map.{IsIdOf}
use Rattle.name_map.proofs.Orders.{known-small}
use Rattle.payload_tables.specs.declared.base.BaseRef.{BaseRef}
use Rattle.payload_tables.specs.Bases.{IsBaseOf}
use Rattle.payload_tables.proofs.Basing.{following-front, base-others}
use Rattle.change_parts.specs.Asked.{IsStored}
use Rattle.change_parts.proofs.StoredNames.{stored-names}
use Rattle.flush_plan.proofs.Finding.{head-pending}
use Rattle.rebase_pending.proofs.Rebased.{known-from-at}
use Rattle.change_parts.proofs.Renumber.{in-map, map-in-back}
use Rattle.store_plans.specs.Looking.{is_asked_in, FindsIn}

pub known-all : (added : List Placed) → known_of added ≡ known_in (payloads_of added)
known-all [] = refl
known-all (a ∷ added) = ap (λ l. a.payload.known ++ l) (known-all added)

pub names-known : (payloads : List Payload) → map (λ (k : Known). k.name) (known_in payloads) ≡ flat_map known_names payloads
names-known [] = refl
names-known (p ∷ more) = map-append (λ (k : Known). k.name) p.known (known_in more) ∙ ap (λ l. known_names p ++ l) (names-known more)

pub row-of : (rows : List (Row Name)) (i : ℕ) (x : Name) → slice_get (names_of rows) i ≡ Some x → (r : Row Name) × (slice_get rows i ≡ Some r) × (r.name ≡ x)
row-of [] i x e = absurd (true≢false (sym (ap is_some e)))
row-of (r ∷ rows) zero x e = (r, refl, ap some_or e)
  where
    some_or : Option Name → Name
    some_or None = r.name
    some_or (Some a) = a
row-of (r ∷ rows) (suc i) x e = row-of rows i x e

pub name-of : (rows : List (Row Name)) (i : ℕ) (r : Row Name) → slice_get rows i ≡ Some r → slice_get (names_of rows) i ≡ Some r.name
name-of [] i r e = absurd (true≢false (sym (ap is_some e)))
name-of (q ∷ rows) zero r e = ap name_or e
  where
    name_or : Option (Row Name) → Option Name
    name_or None = None
    name_or (Some x) = Some x.name
name-of (q ∷ rows) (suc i) r e = name-of rows i r e

pub one-some : (x y : Name) → Some x ≡ Some y → x ≡ y
one-some x y e = cc e

-- the names of rows by ids are those of the rows
pub names-of-rows : (v : World Name) (some : List (Row Name)) → row_names (map (held_row v) some) ≡ names_of some
names-of-rows v [] = refl
names-of-rows v (r ∷ some) = ap (λ l. r.name ∷ l) (names-of-rows v some)

all-kept : (p : Known → Bool) (ks : List Known) → ((k : Known) → IsIn k ks → p k ≡ true) → filter p ks ≡ ks
all-kept p [] h = refl
all-kept p (k ∷ ks) h = ap (λ b. if b then k ∷ filter p ks else filter p ks) (h k (inl refl)) ∙ ap (λ l. k ∷ l) (all-kept p ks (λ j i. h j (inr i)))

pub in-range : (a n id : ℕ) → a ≤ id → id < a + n → IsIn id (range_with_len a n)
in-range a zero id low high = absurd (omega (arith, low, high))
in-range a (suc n) id low high = ⊎_elim (λ e. inl (sym e)) (λ lt. inr (in-range (a + 1) n id (omega (arith, lt)) (omega (arith, high)))) (eq-or-lt_of_le low)

asked-not : (a b c : Bool) → (b ≡ true) ⊎ (c ≡ true) → ((a && not b) && not c) ≡ false
asked-not true true c h = refl
asked-not true false true h = refl
asked-not true false false h = absurd (⊎_elim (λ e. true≢false (sym e)) (λ e. true≢false (sym e)) h)
asked-not false b c h = refl

not-in : (x : Name) (xs : List Name) → (IsIn x xs → ⊥) → is_in same_name x xs ≡ false
not-in x xs h = by_test (is_in same_name x xs) refl
  where
    by_test : (b : Bool) → is_in same_name x xs ≡ b → is_in same_name x xs ≡ false
    by_test true e = absurd (h (found same_name same_name-exact same_name-self x xs e))
    by_test false e = e

is-there : (x : Name) (xs : List Name) → IsIn x xs → is_in same_name x xs ≡ true
is-there x xs i = there same_name same_name-exact same_name-self x xs i

module _ (added : List Placed) (w : World Name) (stand : StandFor (payloads_of added) w) where
  -- a known id is that of its row
  pub known-row : (k : Known) → IsIn k (known_of added) → slice_get (names_of w.master) k.id ≡ Some k.name
  known-row k i = each (λ (q : Known). slice_get (names_of w.master) q.id ≡ Some q.name) (known_in (payloads_of added)) stand.known k (subst (IsIn k) (known-all added) i)

  pub known-below : (k : Known) → IsIn k (known_of added) → k.id < length w.master
  known-below k i = let lt = get-below (names_of w.master) k.id k.name (known-row k i) in let n = names-length w.master in omega (arith, lt, n)

  -- the stored names of the world are those of the base
  pub stored-are : stored_names (payloads_of added) w ≡ map (λ (k : Known). k.name) (stored_in added)
  stored-are =
      ap₂ (λ l m. map (λ (k : Known). k.name) l ++ m)
      (all-kept (λ (k : Known). nat_lt k.id (length w.master)) (known_in (payloads_of added)) (λ k i. lt-ltb k.id (length w.master) (known-below k (subst (IsIn k) (sym (known-all added)) i))))
      (sym stand.names)
      ∙ ap (λ l. l ++ other_names_in (newest (payloads_of added))) (names-known (payloads_of added)) ∙ sym (stored-names added)

  -- where each id has a stored name, each of the master ids is known
  pub known-name : has_lazy (payloads_of added) w ≡ false → (id : ℕ) → id < length w.master → (k : Known) × IsIn k (known_of added) × (id ≡ k.id)
  known-name none id lt = by_test (is_in nat_eq id (map (λ (k : Known). k.id) (known_in (payloads_of added)))) refl
    where
      by_test : (b : Bool) → is_in nat_eq id (map (λ (k : Known). k.id) (known_in (payloads_of added))) ≡ b → (k : Known) × IsIn k (known_of added) × (id ≡ k.id)
      by_test true e =
          let r = map-in-back (λ (k : Known). k.id) id (known_in (payloads_of added)) (found nat_eq same-exact same-self id (map (λ (k : Known). k.id) (known_in (payloads_of added))) e) in
          (r.0, subst (IsIn r.0) (sym (known-all added)) r.1, r.2)
      by_test false e =
          let lazy : is_lazy (payloads_of added) w id ≡ true = ap₂ (λ a b. a && not b) (lt-ltb id (length w.master) lt) e in
          absurd (true≢false (sym (in-any (is_lazy (payloads_of added) w) (range_with_len 0 (length w.master)) id (in-range 0 (length w.master) id zero-le (omega (arith, lt))) lazy) ∙ none))

  -- where each id has a stored name, each name of the world is stored
  pub all-stored : has_lazy (payloads_of added) w ≡ false → (x : Name) → IsIn x (names_of (rows_of w)) → IsStored added x
  all-stored none x i = ⊎_elim
      (λ j.
      let t = at-name w.master x j in
      let lt = get-below w.master t.0 t.1 t.2 in
      let named = known-name none t.0 lt in
      let k = named.0 in
      let same : k.name ≡ x = one-some k.name x (sym (ap (slice_get (names_of w.master)) named.2 ∙ known-row k named.1) ∙ name-of w.master t.0 t.1 t.2 ∙ ap Some t.3) in
      subst (IsStored added) same (in-map (λ (q : Known). q.name) k (stored_in added) (in-left k (known_of added) (known_from (2 ^ 56) (other_names_in (newest (payloads_of added)))) named.1)))
      (λ j.
      subst (IsIn x) (sym (stored-names added))
      (in-right x (flat_map known_names (payloads_of added)) (other_names_in (newest (payloads_of added))) (subst (IsIn x) (sym stand.names) j)))
      (in-append x (names_of w.master) (names_of w.others) (subst (IsIn x) (map-append (λ (r : Row Name). r.name) w.master w.others) i))

  module _ (rows : List (Row Name)) (whole : IsWorld (with_pending w rows)) where
    abbrev view : World Name
    view = with_pending w rows

    view-names : names_of (rows_of (with_pending w rows)) ≡ names_of w.master ++ (names_of w.others ++ names_of rows)
    view-names = map-append (λ (r : Row Name). r.name) w.master (w.others ++ rows) ∙ ap (λ l. names_of w.master ++ l) (map-append (λ (r : Row Name). r.name) w.others rows)

    pub base-there : (x : Name) → IsIn x (names_of (rows_of w)) → IsIn x (names_of (rows_of (with_pending w rows)))
    base-there x i = subst (IsIn x) (sym view-names) (⊎_elim
        (λ j. in-left x (names_of w.master) (names_of w.others ++ names_of rows) j)
        (λ j. in-right x (names_of w.master) (names_of w.others ++ names_of rows) (in-left x (names_of w.others) (names_of rows) j))
        (in-append x (names_of w.master) (names_of w.others) (subst (IsIn x) (map-append (λ (r : Row Name). r.name) w.master w.others) i)))

    -- what is stored is there, with its id
    pub stored-id : (k : Known) → IsIn k (stored_in added) → IsIn k.name (names_of (rows_of w)) × (k.id ≡ id_in same_name (with_pending w rows) k.name)
    stored-id k i = ⊎_elim
        (λ j.
        let r = row-of w.master k.id k.name (known-row k j) in (
          subst (λ z. IsIn z (names_of (rows_of w))) r.2 (name-at (rows_of w) k.id r.0 (place-left w.master w.others k.id r.0 r.1)),
          sym (ap (id_in same_name (with_pending w rows)) (sym r.2) ∙ id-in-master same_name same_name-exact same_name-self (with_pending w rows) whole k.id r.0 r.1),
        ))
        (λ j.
        let p = known-from-at (2 ^ 56) (other_names_in (newest (payloads_of added))) k j in
        let r = row-of w.others p.0 k.name (subst (λ l. slice_get l p.0 ≡ Some k.name) stand.names p.2) in (
          subst (λ z. IsIn z (names_of (rows_of w))) r.2 (name-at (rows_of w) (length w.master + p.0) r.0 (place-right w.master w.others p.0 r.0 r.1)),
          p.1 ∙ sym (ap (id_in same_name (with_pending w rows)) (sym r.2) ∙ id-in-others same_name same_name-exact same_name-self (with_pending w rows) whole p.0 r.0 (place-left w.others rows p.0 r.0 r.1)),
        ))
        (in-append k (known_of added) (known_from (2 ^ 56) (other_names_in (newest (payloads_of added)))) i)

    pub stored-there : (x : Name) → IsStored added x → IsIn x (names_of (rows_of w))
    stored-there x i = let r = map-in-back (λ (k : Known). k.name) x (stored_in added) i in subst (λ z. IsIn z (names_of (rows_of w))) (sym r.2) (stored-id r.0 r.1).0

    -- ---- how a search ends

    pub found-stored : (name : Name) (id : ℕ) → IsIn {X = Known} (record { id = id; name = name }) (stored_in added) → FindsIn (payloads_of added) w rows name (Some id)
    found-stored name id i =
        let s = stored-id (record { id = id; name = name }) i in (
          asked-not (has_lazy (payloads_of added) w) (is_in same_name name (stored_names (payloads_of added) w)) (is_in same_name name (names_of rows))
              (inl (is-there name (stored_names (payloads_of added) w) (subst (IsIn name) (sym stored-are) (in-map (λ (k : Known). k.name) (record { id = id; name = name }) (stored_in added) i)))),
          is-there name (names_of (rows_of (with_pending w rows))) (base-there name s.0),
          s.1,
        )

    pub found-pending : (name : Name) (k id : ℕ) → FindsRow (map (held_row (with_pending w rows)) rows) name (Some k) → id ≡ other_id (length w.others + k) → FindsIn (payloads_of added) w rows name (Some id)
    found-pending name k id f e =
        let h = head-pending w rows whole name k f.0 f.1 f.2 in
        let here : IsIn name (names_of rows) = subst (IsIn name) (names-of-rows (with_pending w rows) rows)
        (get-in (row_names (map (held_row (with_pending w rows)) rows)) k name (name-of-row (map (held_row (with_pending w rows)) rows) k f.0 f.1 ∙ ap Some f.2)) in (
          asked-not (has_lazy (payloads_of added) w) (is_in same_name name (stored_names (payloads_of added) w)) (is_in same_name name (names_of rows)) (inr (is-there name (names_of rows) here)),
          is-there name (names_of (rows_of (with_pending w rows))) h.0,
          e ∙ h.1,
        )

    pub not-pending : (name : Name) → FindsRow (map (held_row (with_pending w rows)) rows) name None → IsIn name (names_of rows) → ⊥
    not-pending name f i = f (subst (IsIn name) (sym (names-of-rows (with_pending w rows) rows)) i)

    pub has-to-ask : (name : Name) → (IsStored added name → ⊥) → FindsRow (map (held_row (with_pending w rows)) rows) name None → has_lazy (payloads_of added) w ≡ true
        → is_asked_in (payloads_of added) w rows name ≡ true
    has-to-ask name out f lazy =
        ap₂ (λ a b. a && not b)
        (ap₂ (λ a b. a && not b) lazy (not-in name (stored_names (payloads_of added) w) (λ i. out (subst (IsIn name) stored-are i))))
        (not-in name (names_of rows) (not-pending name f))

    pub found-nowhere : (name : Name) → (IsStored added name → ⊥) → FindsRow (map (held_row (with_pending w rows)) rows) name None → has_lazy (payloads_of added) w ≡ false
        → FindsIn (payloads_of added) w rows name None
    found-nowhere name out f none = (
      ap (λ a. (a && not (is_in same_name name (stored_names (payloads_of added) w))) && not (is_in same_name name (names_of rows))) none,
      not-in name (names_of (rows_of (with_pending w rows))) (λ i. ⊎_elim
          (λ j. out (all-stored none name (subst (IsIn name) (sym (map-append (λ (r : Row Name). r.name) w.master w.others)) (in-left name (names_of w.master) (names_of w.others) j))))
          (λ j. ⊎_elim
          (λ l. out (all-stored none name (subst (IsIn name) (sym (map-append (λ (r : Row Name). r.name) w.master w.others)) (in-right name (names_of w.master) (names_of w.others) l))))
          (λ l. not-pending name f l) (in-append name (names_of w.others) (names_of rows) j))
          (in-append name (names_of w.master) (names_of w.others ++ names_of rows) (subst (IsIn name) view-names i))),
    )

-- ---- what a base answers

-- stored ids are in range
stored-small : (base : BaseRef) (added : List Placed) → IsBaseOf base added → (k : Known) → IsIn k (stored_in added) → k.id < 2 ^ 57
stored-small base added b k i = ⊎_elim
    (λ j. let s = known-small 0 added (following-front 0 added b.behind b.tables_of.names.follow) k j in let l : 16777216 ≤ 2 ^ 57 = lit≤ tt in omega (arith, s, l))
    (λ j.
    let p = known-from-at (2 ^ 56) (other_names_in (newest (payloads_of added))) k j in
    let e = p.1 in
    let lt = get-below (other_names_in (newest (payloads_of added))) p.0 k.name p.2 in
    let few = (base-others base.bytes.now base.tables.now base.others.now base.below added b).few in
    let l : 2 ^ 56 + 65536 ≤ 2 ^ 57 = lit≤ tt in omega (arith, e, lt, few, l))
    (in-append k (known_of added) (known_from (2 ^ 56) (other_names_in (newest (payloads_of added)))) i)

pub not-stored : (base : BaseRef) (added : List Placed) → IsBaseOf base added → (name : Name) → IsIdOf (stored_in added) name (2 ^ 57) None → IsStored added name → ⊥
not-stored base added b name out i =
    let r = map-in-back (λ (k : Known). k.name) name (stored_in added) i in
    out r.0.id (stored-small base added b r.0 r.1) (subst (λ n. IsIn {X = Known} (record { id = r.0.id; name = n }) (stored_in added)) (sym r.2) r.1)
