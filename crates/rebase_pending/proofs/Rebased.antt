-- A rebase by ids is the rebase of the rows.
use Rattle.std.proofs.Common.{◌≡◌, ◌<◌, ◌≤◌, ◌+◌, ◌-◌, ◌^◌, ℕ, zero, suc, Bool, true, false, not, cond, ◌&&◌, ◌⊎◌, inl, inr, List, [], ◌∷◌, ◌++◌, length, map, flat_map, filter, take, nat_eq, Option, Some, None, slice_get, is_some, refl, sym, ap, ap₂, subst, ◌∙◌, ⊎_elim, if◌then◌else◌, arith, true≢false, append_assoc, append-nil, length-append, lit≤}
use Rattle.std.specs.List.{AllZip}
use Rattle.std.specs.Cmp.Lexicographic.{pointwise}
use Rattle.std.proofs.lemmas.List.{map-append, length-map}
use Rattle.std.proofs.lemmas.Bool.{false_from_ne_true, eq-eqb}
use Rattle.std.proofs.lemmas.Map.Views.{exact_unsigned_eq}
use Rattle.id_groups.specs.Lists.{IsIn, is_in, AreDistinct}
use Rattle.id_groups.specs.Name.{Name, same_name}
use Rattle.id_groups.specs.Id.{is_master_id, other_id}
use Rattle.id_groups.proofs.Names.{same_name-exact, same_name-self}
use Rattle.id_groups.proofs.Listing.{found, there}
use Rattle.commit_graph.specs.World.{Row, World, IsWorld, IsHistory, GrowsMaster, names_of, rows_of, row_named, with_pending}
use Rattle.commit_graph.specs.Ids.{id_in}
use Rattle.commit_graph.proofs.Histories.{history-front, history-rest, in-all, in-append}
use Rattle.commit_graph.proofs.Down.{in-left, in-right}
use Rattle.commit_graph.proofs.Naming.{each}
use Rattle.commit_graph.proofs.Places.{item-at, at-name, id-in-master, id-in-others, named-at, chosen, left-out, below-master, over-master, other-place, place-left, place-right}
use Rattle.segment_codec.specs.Record.{Segment}
use Rattle.segment_codec.specs.Table.{parents_at}
use Rattle.batch_codec.specs.Payload.{Known}
use Rattle.name_map.specs.Added.{Placed, payloads_of, known_of}
use Rattle.change_rules.specs.Change.{known_from}
use Rattle.change_rules.specs.Tables.{newest, other_names_in, StandFor}
use Rattle.change_rules.specs.Rebase.{left_of, has_parents, conflicts, first_conflict, first_outside, first_missing, first_lost, or_else}
use Rattle.change_rules.proofs.Flushes.{name-in, filtered-names}
use Rattle.change_rules.proofs.Changed.{rebase-lossless}
use Rattle.payload_tables.specs.Pending.{PlainPending, HoldsRows}
use Rattle.payload_tables.specs.Bases.{held_row, stored_in, AreSegmentsOf}
use Rattle.payload_tables.proofs.Lists.{parents-known}
use Rattle.payload_tables.proofs.Joined.{seen-id}
use Rattle.payload_tables.proofs.Rows.{count-rows}
use Rattle.change_parts.proofs.Renumber.{map-in-back}
use Rattle.change_parts.specs.declared.fault.PlanFault.{PlanFault}
use Rattle.change_parts.specs.declared.fault.PlanFault.TheVariants.{Lost}
use Rattle.change_parts.specs.Asked.{IsStored}
use Rattle.change_parts.specs.Plans.{stored_id}
use Rattle.rebase_pending.specs.Rebasing.{IsMoved, IsLost, LosesFirst, IsAt, IsNowhere, AreStoredAs, IsKept}

pub known-from-at : (id : ℕ) (names : List Name) (k : Known) → IsIn k (known_from id names) → (j : ℕ) × (k.id ≡ id + j) × (slice_get names j ≡ Some k.name)
known-from-at id [] k i = absurd i
known-from-at id (x ∷ names) k (inl e) = (0, (let z = ap (λ (q : Known). q.id) e in omega (arith, z)), ap Some (sym (ap (λ (q : Known). q.name) e)))
known-from-at id (x ∷ names) k (inr i) = let r = known-from-at (id + 1) names k i in (suc r.0, (let z = r.1 in omega (arith, z)), r.2)

pub row-at-name : (rows : List (Row Name)) (i : ℕ) (x : Name) → slice_get (names_of rows) i ≡ Some x → (r : Row Name) × (slice_get rows i ≡ Some r) × (r.name ≡ x)
row-at-name [] i x e = absurd (true≢false (sym (ap is_some e)))
row-at-name (r ∷ rows) zero x e = (r, refl, ap some_or e)
  where
    some_or : Option Name → Name
    some_or None = r.name
    some_or (Some a) = a
row-at-name (r ∷ rows) (suc i) x e = row-at-name rows i x e

pub get-name-of : (rows : List (Row Name)) (i : ℕ) (r : Row Name) → slice_get rows i ≡ Some r → slice_get (names_of rows) i ≡ Some r.name
get-name-of [] i r e = absurd (true≢false (sym (ap is_some e)))
get-name-of (q ∷ rows) zero r e = ap name_or e
  where
    name_or : Option (Row Name) → Option Name
    name_or None = None
    name_or (Some x) = Some x.name
get-name-of (q ∷ rows) (suc i) r e = get-name-of rows i r e

pub get-mapped : (f : Name → ℕ) (xs : List Name) (i : ℕ) (x : Name) → slice_get xs i ≡ Some x → slice_get (map f xs) i ≡ Some (f x)
get-mapped f [] i x e = absurd (true≢false (sym (ap is_some e)))
get-mapped f (y ∷ xs) zero x e = ap name_or e
  where
    name_or : Option Name → Option ℕ
    name_or None = None
    name_or (Some x) = Some (f x)
get-mapped f (y ∷ xs) (suc i) x e = get-mapped f xs i x e

get-under : {X : Type 0} (xs : List X) (i : ℕ) (x : X) → slice_get xs i ≡ Some x → i < length xs
get-under [] i x e = absurd (true≢false (sym (ap is_some e)))
get-under (y ∷ xs) zero x e = omega arith
get-under (y ∷ xs) (suc i) x e = let r = get-under xs i x e in omega (arith, r)

row-of-name : (rows : List (Row Name)) (x : Name) → IsIn x (names_of rows) → (r : Row Name) × IsIn r rows × (r.name ≡ x)
row-of-name [] x i = absurd i
row-of-name (r ∷ rows) x (inl e) = (r, inl refl, sym e)
row-of-name (r ∷ rows) x (inr i) = let q = row-of-name rows x i in (q.0, inr q.1, q.2)

pub known-all : (added : List Placed) → known_of added ≡ flat_map (λ p. p.known) (payloads_of added)
known-all [] = refl
known-all (a ∷ added) = ap (λ l. a.payload.known ++ l) (known-all added)

mapped-same : (f g : Name → ℕ) (xs : List Name) → ((x : Name) → IsIn x xs → f x ≡ g x) → map f xs ≡ map g xs
mapped-same f g [] h = refl
mapped-same f g (x ∷ xs) h = ap₂ (λ a b. a ∷ b) (h x (inl refl)) (mapped-same f g xs (λ y i. h y (inr i)))

pw-exact : (xs ys : List Name) → pointwise same_name xs ys ≡ true → xs ≡ ys
pw-exact [] [] e = refl
pw-exact [] (y ∷ ys) e = absurd (true≢false (sym e))
pw-exact (x ∷ xs) [] e = absurd (true≢false (sym e))
pw-exact (x ∷ xs) (y ∷ ys) e = by_test (same_name x y) refl e (pw-exact xs ys)
  where
    by_test : (b : Bool) → same_name x y ≡ b → (b && pointwise same_name xs ys) ≡ true → (pointwise same_name xs ys ≡ true → xs ≡ ys) → x ∷ xs ≡ y ∷ ys
    by_test true f g rec = ap₂ (λ a b. a ∷ b) (same_name-exact x y f) (rec g)
    by_test false f g rec = absurd (true≢false (sym g))

filter-join : (test : Row Name → Bool) (xs ys : List (Row Name)) → filter test (xs ++ ys) ≡ filter test xs ++ filter test ys
filter-join test [] ys = refl
filter-join test (x ∷ xs) ys = by_test (test x) (filter-join test xs ys)
  where
    by_test : (b : Bool) → filter test (xs ++ ys) ≡ filter test xs ++ filter test ys → cond b (x ∷ filter test (xs ++ ys)) (filter test (xs ++ ys)) ≡ cond b (x ∷ filter test xs) (filter test xs) ++ filter test ys
    by_test true e = ap (λ l. x ∷ l) e
    by_test false e = e

no-some : {X : Type 0} (x : X) → ◌≡◌ {A = Option X} (Some x) None → ⊥
no-some x e = true≢false (ap is_some e)

some-is : {X : Type 0} (x y : X) → ◌≡◌ {A = Option X} (Some x) (Some y) → x ≡ y
some-is {X} x y e = ap some_or e
  where
    some_or : Option X → X
    some_or None = x
    some_or (Some a) = a

-- the first that is missing of rows behind others
or-none : (o other : Option Name) → or_else o other ≡ None → (o ≡ None) × (other ≡ None)
or-none None other e = (refl, e)
or-none (Some x) other e = absurd (no-some x e)

missing-behind : (known : List Name) (xs ys : List (Row Name)) → first_missing same_name known xs ≡ None → first_missing same_name known (xs ++ ys) ≡ first_missing same_name (known ++ names_of xs) ys
missing-behind known [] ys e = ap (λ l. first_missing same_name l ys) (sym (append-nil known))
missing-behind known (x ∷ xs) ys e =
    let both = or-none (first_outside same_name known x.parents) (first_missing same_name (known ++ x.name ∷ []) xs) e in
    ap (λ o. or_else o (first_missing same_name (known ++ x.name ∷ []) (xs ++ ys))) both.0
    ∙ missing-behind (known ++ x.name ∷ []) xs ys both.1
    ∙ ap (λ l. first_missing same_name l ys) (append_assoc known (x.name ∷ []) (names_of xs))

-- names that are all there
none-outside : (known xs : List Name) → ((x : Name) → IsIn x xs → IsIn x known) → first_outside same_name known xs ≡ None
none-outside known [] f = refl
none-outside known (x ∷ xs) f =
    ap (λ b. if b then first_outside same_name known xs else Some x) (there same_name same_name-exact same_name-self x known (f x (inl refl)))
    ∙ none-outside known xs (λ y i. f y (inr i))

-- the first name that isn't there, where those before it are
outside-at : (known xs : List Name) (k : ℕ) (x : Name) → slice_get xs k ≡ Some x → ((y : Name) → IsIn y (take k xs) → IsIn y known) → is_in same_name x known ≡ false → first_outside same_name known xs ≡ Some x
outside-at known [] k x e f g = absurd (no-some x (sym e))
outside-at known (y ∷ xs) zero x e f g = let s = some-is y x e in
    ap (λ b. if b then first_outside same_name known xs else Some y) (ap (λ z. is_in same_name z known) s ∙ g) ∙ ap Some s
outside-at known (y ∷ xs) (suc k) x e f g =
    ap (λ b. if b then first_outside same_name known xs else Some y) (there same_name same_name-exact same_name-self y known (f y (inl refl)))
    ∙ outside-at known xs k x e (λ z i. f z (inr i)) g

-- what is left of the first rows, and the ids that they all have; none of them loses a parent
pub record LeftIn (w : World Name) (front : List (Row Name)) (ids : List ℕ) (kept : PlainPending) : Type 0 where
  pub lossless : first_lost same_name w front ≡ None
  pub ids_are : ids ≡ map (id_in same_name (with_pending w (left_of same_name w front))) (names_of front)
  pub first : kept.first ≡ length w.others
  pub held : HoldsRows kept (map (held_row (with_pending w (left_of same_name w front))) (left_of same_name w front))

module _ (w : World Name) where
  pub none-front : (front more : List (Row Name)) → first_conflict same_name w front ≡ None → first_conflict same_name w (front ++ more) ≡ first_conflict same_name w more
  none-front [] more e = refl
  none-front (r ∷ front) more e = by_test (conflicts same_name w r) refl e (none-front front more)
    where
      by_test : (b : Bool) → conflicts same_name w r ≡ b → (if b then Some r.name else first_conflict same_name w front) ≡ None → (first_conflict same_name w front ≡ None → first_conflict same_name w (front ++ more) ≡ first_conflict same_name w more)
          → (if conflicts same_name w r then Some r.name else first_conflict same_name w (front ++ more)) ≡ first_conflict same_name w more
      by_test true t f rec = absurd (true≢false (ap is_some f))
      by_test false t f rec = ap (λ b. if b then Some r.name else first_conflict same_name w (front ++ more)) t ∙ rec f

  pub conflict-at : (front more : List (Row Name)) (r : Row Name) → first_conflict same_name w front ≡ None → conflicts same_name w r ≡ true → first_conflict same_name w (front ++ r ∷ more) ≡ Some r.name
  conflict-at front more r e t = none-front front (r ∷ more) e ∙ ap (λ b. if b then Some r.name else first_conflict same_name w more) t

  pub none-at : (front : List (Row Name)) (r : Row Name) → first_conflict same_name w front ≡ None → conflicts same_name w r ≡ false → first_conflict same_name w (front ++ r ∷ []) ≡ None
  none-at front r e t = none-front front (r ∷ []) e ∙ ap (λ b. if b then Some r.name else None) t

  pub left-there : (front : List (Row Name)) (r : Row Name) → IsIn r.name (names_of (rows_of w)) → left_of same_name w (front ++ r ∷ []) ≡ left_of same_name w front
  left-there front r i = filter-join (λ row. not (is_in same_name row.name (names_of (rows_of w)))) front (r ∷ [])
      ∙ ap (λ b. left_of same_name w front ++ cond (not b) (r ∷ []) []) (there same_name same_name-exact same_name-self r.name (names_of (rows_of w)) i) ∙ append-nil (left_of same_name w front)

  pub left-new : (front : List (Row Name)) (r : Row Name) → is_in same_name r.name (names_of (rows_of w)) ≡ false → left_of same_name w (front ++ r ∷ []) ≡ left_of same_name w front ++ r ∷ []
  left-new front r e = filter-join (λ row. not (is_in same_name row.name (names_of (rows_of w)))) front (r ∷ [])
      ∙ ap (λ b. left_of same_name w front ++ cond (not b) (r ∷ []) []) e

module _ (added before : List Placed) (w old : World Name) (rows : List (Row Name)) (sw : StandFor (payloads_of added) w) (hw : IsWorld w) (small : length w.master ≤ 16777216)
    (so : StandFor (payloads_of before) old) (hv : IsWorld (with_pending old rows)) (grows : GrowsMaster old w)
    (unmissed : (name : Name) → IsIn name (names_of old.others) → IsIn name (names_of (rows_of w)) → IsStored added name) where
  abbrev pub seen : World Name
  seen = with_pending old rows

  -- the rebased world of the first rows
  abbrev pub new_at : List (Row Name) → World Name
  new_at front = with_pending w (left_of same_name w front)

  abbrev pub new_id : List (Row Name) → Name → ℕ
  new_id front = id_in same_name (new_at front)

  front-seen : (front more : List (Row Name)) → rows ≡ front ++ more → IsWorld (with_pending old front)
  front-seen front more e = history-front [] (old.master ++ (old.others ++ front)) more
      (subst (IsHistory []) (ap (λ l. old.master ++ (old.others ++ l)) e ∙ ap (λ l. old.master ++ l) (sym (append_assoc old.others front more)) ∙ sym (append_assoc old.master (old.others ++ front) more)) hv)

  pub front-world : (front more : List (Row Name)) → rows ≡ front ++ more → first_lost same_name w front ≡ None → IsWorld (new_at front)
  front-world front more e lossless = rebase-lossless same_name same_name-exact same_name-self w old front hw (front-seen front more e) lossless

  pub w-id : (front : List (Row Name)) (x : Name) → IsIn x (names_of (rows_of w)) → new_id front x ≡ id_in same_name w x
  w-id front x i = seen-id w (left_of same_name w front) x i

  pub in-new : (front : List (Row Name)) (x : Name) → IsIn x (names_of (rows_of w)) → IsIn x (names_of (rows_of (new_at front)))
  in-new front x i = subst (λ l. IsIn x (names_of l)) (append_assoc w.master w.others (left_of same_name w front))
      (subst (IsIn x) (sym (map-append (λ (r : Row Name). r.name) (rows_of w) (left_of same_name w front))) (in-left x (names_of (rows_of w)) (names_of (left_of same_name w front)) i))

  in-left-of : (some : List (Row Name)) (x : Name) → IsIn x (names_of some) → is_in same_name x (names_of (rows_of w)) ≡ false → IsIn x (names_of (left_of same_name w some))
  in-left-of [] x i e = absurd i
  in-left-of (r ∷ some) x i e = by_test (is_in same_name r.name (names_of (rows_of w))) refl i (λ j. in-left-of some x j e)
    where
      by_test : (b : Bool) → is_in same_name r.name (names_of (rows_of w)) ≡ b → IsIn x (names_of (r ∷ some)) → (IsIn x (names_of some) → IsIn x (names_of (left_of same_name w some)))
          → IsIn x (names_of (cond (not b) (r ∷ left_of same_name w some) (left_of same_name w some)))
      by_test true t (inl f) rec = absurd (true≢false (sym t ∙ ap (λ z. is_in same_name z (names_of (rows_of w))) (sym f) ∙ e))
      by_test true t (inr j) rec = rec j
      by_test false t (inl f) rec = inl f
      by_test false t (inr j) rec = inr (rec j)

  new-names : (front : List (Row Name)) → names_of (rows_of (new_at front)) ≡ names_of (rows_of w) ++ names_of (left_of same_name w front)
  new-names front = ap names_of (sym (append_assoc w.master w.others (left_of same_name w front))) ∙ map-append (λ (r : Row Name). r.name) (rows_of w) (left_of same_name w front)

  pub pending-there : (front : List (Row Name)) (x : Name) → IsIn x (names_of front) → IsIn x (names_of (rows_of (new_at front)))
  pending-there front x i = by_test (is_in same_name x (names_of (rows_of w))) refl
    where
      by_test : (b : Bool) → is_in same_name x (names_of (rows_of w)) ≡ b → IsIn x (names_of (rows_of (new_at front)))
      by_test true e = in-new front x (found same_name same_name-exact same_name-self x (names_of (rows_of w)) e)
      by_test false e = subst (IsIn x) (sym (new-names front)) (in-right x (names_of (rows_of w)) (names_of (left_of same_name w front)) (in-left-of front x i e))

  -- ---- stored names

  pub stored-id : (k : Known) → IsIn k (stored_in added) → IsIn k.name (names_of (rows_of w)) × (k.id ≡ id_in same_name w k.name)
  stored-id k i = ⊎_elim
      (λ j.
      let e = each (λ (q : Known). slice_get (names_of w.master) q.id ≡ Some q.name) (flat_map (λ p. p.known) (payloads_of added)) sw.known k (subst (IsIn k) (known-all added) j) in
      let r = row-at-name w.master k.id k.name e in (
        subst (λ x. IsIn x (names_of (rows_of w))) r.2 (name-in r.0 (rows_of w) (in-left r.0 w.master w.others (item-at w.master k.id r.0 r.1))),
        sym (ap (id_in same_name w) (sym r.2) ∙ id-in-master same_name same_name-exact same_name-self w hw k.id r.0 r.1),
      ))
      (λ j.
      let p = known-from-at (2 ^ 56) (other_names_in (newest (payloads_of added))) k j in
      let r = row-at-name w.others p.0 k.name (subst (λ l. slice_get l p.0 ≡ Some k.name) sw.names p.2) in (
        subst (λ x. IsIn x (names_of (rows_of w))) r.2 (name-in r.0 (rows_of w) (in-right r.0 w.master w.others (item-at w.others p.0 r.0 r.1))),
        p.1 ∙ sym (ap (id_in same_name w) (sym r.2) ∙ id-in-others same_name same_name-exact same_name-self w hw p.0 r.0 r.1),
      ))
      (in-append k (known_of added) (known_from (2 ^ 56) (other_names_in (newest (payloads_of added)))) i)

  old-small : length old.master ≤ 16777216
  old-small = let e = ap (length {A = Row Name}) grows.1 in let l = length-append old.master grows.0 in omega (arith, e, l, small)

  -- a name that a row behind these may have as a parent
  abbrev pub Earlier : List (Row Name) → Name → Type 0
  Earlier front p = IsIn p (names_of (rows_of old)) ⊎ IsIn p (names_of front)

  pub earlier : (front rest : List (Row Name)) (r : Row Name) → rows ≡ front ++ r ∷ rest → (p : Name) → IsIn p r.parents → Earlier front p
  earlier front rest r e p i =
      let h : IsHistory [] (rows_of old ++ (front ++ r ∷ rest)) = subst (IsHistory []) (sym (append_assoc old.master old.others rows) ∙ ap (λ l. rows_of old ++ l) e) hv in
      let k = (history-rest [] (rows_of old ++ front) (r ∷ rest) (subst (IsHistory []) (sym (append_assoc (rows_of old) front (r ∷ rest))) h)).0.known in
      in-append p (names_of (rows_of old)) (names_of front) (subst (IsIn p) (map-append (λ (q : Row Name). q.name) (rows_of old) front) (in-all p r.parents (names_of (rows_of old ++ front)) i k))

  -- where an earlier name stands in the session's own view: in master, in the others, or among the pending rows
  abbrev OldMaster : Name → Type 0
  OldMaster p = (i : ℕ) × (i < 2 ^ 56) × (id_in same_name seen p ≡ i) × IsIn p (names_of (rows_of w)) × (id_in same_name w p ≡ i)

  abbrev OldOther : Name → Type 0
  OldOther p = (j : ℕ) × (j < length old.others) × (id_in same_name seen p ≡ other_id j) × IsIn p (names_of old.others) × (slice_get (other_names_in (newest (payloads_of before))) j ≡ Some p)

  abbrev OldRow : List (Row Name) → Name → Type 0
  OldRow front p = (j : ℕ) × (r : Row Name) × (slice_get front j ≡ Some r) × (r.name ≡ p) × (id_in same_name seen p ≡ other_id (length old.others + j))

  pub stands : (front more : List (Row Name)) → rows ≡ front ++ more → (p : Name) → Earlier front p → OldMaster p ⊎ (OldOther p ⊎ OldRow front p)
  stands front more parts p (inr i) =
      let t = at-name front p i in
      let at : slice_get seen.others (length old.others + t.0) ≡ Some t.1 = place-right old.others rows t.0 t.1 (subst (λ l. slice_get l t.0 ≡ Some t.1) (sym parts) (place-left front more t.0 t.1 t.2)) in
      inr (inr (t.0, t.1, t.2, t.3, ap (id_in same_name seen) (sym t.3) ∙ id-in-others same_name same_name-exact same_name-self seen hv (length old.others + t.0) t.1 at))
  stands front more parts p (inl i) = ⊎_elim
      (λ j.
      let t = at-name old.master p j in
      let lt = get-under old.master t.0 t.1 t.2 in let s = old-small in let k : 16777216 ≤ 2 ^ 56 = lit≤ tt in
      let now : slice_get w.master t.0 ≡ Some t.1 = subst (λ l. slice_get l t.0 ≡ Some t.1) (sym grows.1) (place-left old.master grows.0 t.0 t.1 t.2) in
      inl (
        t.0,
        omega (arith, lt, s, k),
        ap (id_in same_name seen) (sym t.3) ∙ id-in-master same_name same_name-exact same_name-self seen hv t.0 t.1 t.2,
        subst (λ x. IsIn x (names_of (rows_of w))) t.3 (name-in t.1 (rows_of w) (in-left t.1 w.master w.others (item-at w.master t.0 t.1 now))),
        ap (id_in same_name w) (sym t.3) ∙ id-in-master same_name same_name-exact same_name-self w hw t.0 t.1 now,
      ))
      (λ j.
      let t = at-name old.others p j in
      inr (inl (
        t.0,
        get-under old.others t.0 t.1 t.2,
        ap (id_in same_name seen) (sym t.3) ∙ id-in-others same_name same_name-exact same_name-self seen hv t.0 t.1 (place-left old.others rows t.0 t.1 t.2),
        j,
        ap (λ l. slice_get l t.0) so.names ∙ get-name-of old.others t.0 t.1 t.2 ∙ ap Some t.3,
      )))
      (in-append p (names_of old.master) (names_of old.others) (subst (IsIn p) (map-append (λ (r : Row Name). r.name) old.master old.others) i))

  -- a parent that is lost isn't in the world
  pub lost-missing : (front more : List (Row Name)) → rows ≡ front ++ more → (p : Name) → Earlier front p → (name : Name) → IsLost before added (id_in same_name seen p) name
      → (name ≡ p) × (IsIn p (names_of old.others)) × (IsIn p (names_of (rows_of w)) → ⊥)
  lost-missing front more parts p h name l = ⊎_elim
      (λ m. let a = m.1 in let b = m.2 in let c = l.parent_is in absurd (let z : ⊥ = omega (arith, a, b, c) in z))
      (λ h2. ⊎_elim
      (λ o.
      let b = o.2 in let c = l.parent_is in
      let same : o.0 ≡ l.place = omega (arith, b, c) in
      let is : name ≡ p = some-is name p (sym l.named ∙ ap (slice_get (other_names_in (newest (payloads_of before)))) (sym same) ∙ o.4) in
      (is, o.3, λ i. l.lost (subst (λ x. IsStored added x) (sym is) (unmissed p o.3 i))))
      (λ q.
      let b = q.4 in let c = l.parent_is in
      let lt = get-under (other_names_in (newest (payloads_of before))) l.place name l.named in
      let e = ap (length {A = Name}) so.names in let f = length-map old.others (λ (r : Row Name). r.name) in
      absurd (let z : ⊥ = omega (arith, b, c, lt, e, f) in z))
      h2)
      (stands front more parts p h)

  -- ---- rows that are left: parents by the ids of the rows before

  pub moved-id : (front more : List (Row Name)) → rows ≡ front ++ more → (first : ℕ) (ids : List ℕ) → first ≡ length old.others → ids ≡ map (new_id front) (names_of front) → (p : Name) (id : ℕ) → Earlier front p
      → IsMoved before added first ids (id_in same_name seen p) id → IsIn p (names_of (rows_of (new_at front))) × (id ≡ new_id front p)
  moved-id front more parts first ids fe ie p id h m = ⊎_elim
      (λ o.
      let a = o.1 in let b = o.2 in
      (in-new front p o.3, m.master (let z : id_in same_name seen p < 2 ^ 56 = omega (arith, a, b) in z) ∙ o.2 ∙ sym (w-id front p o.3 ∙ o.4)))
      (λ h2. ⊎_elim
      (λ o.
      let s = stored-id (record { id = id; name = p }) (m.stored o.0 p o.2 o.4) in
      (in-new front p s.0, s.1 ∙ sym (w-id front p s.0)))
      (λ q. (
        pending-there front p (subst (λ x. IsIn x (names_of front)) q.3 (name-in q.1 front (item-at front q.0 q.1 q.2))),
        m.pending q.0 (new_id front p) (q.4 ∙ ap (λ n. other_id (n + q.0)) (sym fe))
            (ap (λ l. slice_get l q.0) ie ∙ get-mapped (new_id front) (names_of front) q.0 p (get-name-of front q.0 q.1 q.2 ∙ ap Some q.3)),
      ))
      h2)
      (stands front more parts p h)

  pub moved-all : (front more : List (Row Name)) → rows ≡ front ++ more → (first : ℕ) (ids : List ℕ) → first ≡ length old.others → ids ≡ map (new_id front) (names_of front)
      → (ps : List Name) → ((p : Name) → IsIn p ps → Earlier front p) → (moved : List ℕ) → AllZip (IsMoved before added first ids) (map (id_in same_name seen) ps) moved
      → ((p : Name) → IsIn p ps → IsIn p (names_of (rows_of (new_at front)))) × (moved ≡ map (new_id front) ps)
  moved-all front more parts first ids fe ie [] f [] h = ((λ p i. absurd i), refl)
  moved-all front more parts first ids fe ie [] f (x ∷ moved) h = absurd h
  moved-all front more parts first ids fe ie (p ∷ ps) f [] h = absurd h
  moved-all front more parts first ids fe ie (p ∷ ps) f (x ∷ moved) h =
      let one = moved-id front more parts first ids fe ie p x (f p (inl refl)) h.0 in
      let others = moved-all front more parts first ids fe ie ps (λ q i. f q (inr i)) moved h.1 in
      ((λ q i. ⊎_elim (λ e. subst (λ z. IsIn z (names_of (rows_of (new_at front)))) (sym e) one.0) (λ j. others.0 q j) i), ap₂ (λ a b. a ∷ b) one.1 others.1)

  -- one more row: the rebased world of the first rows stands at the front of the next one
  next-world : (front : List (Row Name)) (r : Row Name) → is_in same_name r.name (names_of (rows_of w)) ≡ false → new_at (front ++ r ∷ []) ≡ with_pending (new_at front) (r ∷ [])
  next-world front r e = ap (with_pending w) (left-new w front r e) ∙ ap (λ l. record { master = w.master; others = l }) (sym (append_assoc w.others (left_of same_name w front) (r ∷ [])))

  next-id : (front : List (Row Name)) (r : Row Name) → is_in same_name r.name (names_of (rows_of w)) ≡ false → (x : Name) → IsIn x (names_of (rows_of (new_at front))) → new_id front x ≡ new_id (front ++ r ∷ []) x
  next-id front r e x i = sym (ap (λ v. id_in same_name v x) (next-world front r e) ∙ seen-id (new_at front) (r ∷ []) x i)

  lossless-more : (front : List (Row Name)) (r : Row Name) → first_lost same_name w front ≡ None → is_in same_name r.name (names_of (rows_of w)) ≡ false
      → ((p : Name) → IsIn p r.parents → IsIn p (names_of (rows_of (new_at front)))) → first_lost same_name w (front ++ r ∷ []) ≡ None
  lossless-more front r none e f =
      ap (first_missing same_name (names_of (rows_of w))) (left-new w front r e)
      ∙ missing-behind (names_of (rows_of w)) (left_of same_name w front) (r ∷ []) none
      ∙ ap (λ o. or_else o (first_missing same_name ((names_of (rows_of w) ++ names_of (left_of same_name w front)) ++ r.name ∷ []) []))
      (none-outside (names_of (rows_of w) ++ names_of (left_of same_name w front)) r.parents (λ p i. subst (IsIn p) (new-names front) (f p i)))

  rows-same : (front : List (Row Name)) (r : Row Name) → is_in same_name r.name (names_of (rows_of w)) ≡ false → (some : List (Row Name)) → ((q : Row Name) → IsIn q some → (p : Name) → IsIn p q.parents → IsIn p (names_of (rows_of (new_at front))))
      → map (held_row (new_at front)) some ≡ map (held_row (new_at (front ++ r ∷ []))) some
  rows-same front r e [] f = refl
  rows-same front r e (q ∷ some) f = ap₂ (λ a b. a ∷ b)
      (ap (λ ps. record { name = q.name; parents = ps }) (mapped-same (new_id front) (new_id (front ++ r ∷ [])) q.parents (λ p i. next-id front r e p (f q (inl refl) p i))))
      (rows-same front r e some (λ z i. f z (inr i)))

  -- a row that the world doesn't have
  pub row-kept : (front rest : List (Row Name)) (r : Row Name) → rows ≡ front ++ r ∷ rest → (ids : List ℕ) (kept next : PlainPending) → LeftIn w front ids kept
      → is_in same_name r.name (names_of (rows_of w)) ≡ false → (moved : List ℕ) → ((p : Name) → IsIn p r.parents → IsIn p (names_of (rows_of (new_at front)))) → moved ≡ map (new_id front) r.parents
      → (id : ℕ) → IsKept kept next r.name moved id → LeftIn w (front ++ r ∷ []) (ids ++ id ∷ []) next
  row-kept front rest r e ids kept next l out moved there_all m id h =
      let world = front-world front (r ∷ rest) e l.lossless in
      let lossless = lossless-more front r l.lossless out there_all in
      let parts : rows ≡ (front ++ r ∷ []) ++ rest = e ∙ sym (append_assoc front (r ∷ []) rest) in
      let later = front-world (front ++ r ∷ []) rest parts lossless in
      let at : slice_get (w.others ++ left_of same_name w (front ++ r ∷ [])) (length w.others + length (left_of same_name w front)) ≡ Some r =
      place-right w.others (left_of same_name w (front ++ r ∷ [])) (length (left_of same_name w front)) r (ap (λ q. slice_get q (length (left_of same_name w front))) (left-new w front r out) ∙ seam (left_of same_name w front) r []) in
      let many = count-rows kept (map (held_row (new_at front)) (left_of same_name w front)) l.held in
      let long = length-map (left_of same_name w front) (held_row (new_at front)) in
      let a = h.id_is in let b = l.first in
      let id_is : id ≡ new_id (front ++ r ∷ []) r.name = (let z : id ≡ other_id (length w.others + length (left_of same_name w front)) = omega (arith, a, b, many, long) in z)
      ∙ sym (id-in-others same_name same_name-exact same_name-self (new_at (front ++ r ∷ [])) later (length w.others + length (left_of same_name w front)) r at) in
      record {
        lossless = lossless;
        ids_are = ap₂ (λ a b. a ++ b ∷ []) (l.ids_are ∙ mapped-same (new_id front) (new_id (front ++ r ∷ [])) (names_of front) (λ x i. next-id front r out x (pending-there front x i))) id_is
            ∙ sym (ap (map (new_id (front ++ r ∷ []))) (map-append (λ (q : Row Name). q.name) front (r ∷ [])) ∙ map-append (new_id (front ++ r ∷ [])) (names_of front) (r.name ∷ []));
        first = h.first ∙ l.first;
        held = subst (HoldsRows next)
            (ap₂ (λ ms ps. ms ++ record { name = r.name; parents = ps } ∷ [])
            (rows-same front r out (left_of same_name w front) (λ q i p j. in-all p q.parents (names_of (rows_of (new_at front))) j (parents-known [] (rows_of (new_at front)) world q (in-right q w.master (w.others ++ left_of same_name w front) (in-right q w.others (left_of same_name w front) i)))))
            (m ∙ mapped-same (new_id front) (new_id (front ++ r ∷ [])) r.parents (λ p i. next-id front r out p (there_all p i)))
            ∙ sym (ap (map (held_row (new_at (front ++ r ∷ [])))) (left-new w front r out) ∙ map-append (held_row (new_at (front ++ r ∷ []))) (left_of same_name w front) (r ∷ [])))
            (h.rows (map (held_row (new_at front)) (left_of same_name w front)) l.held);
      }
    where
      seam : (xs : List (Row Name)) (x : Row Name) (ys : List (Row Name)) → slice_get (xs ++ x ∷ ys) (length xs) ≡ Some x
      seam [] x ys = refl
      seam (y ∷ xs) x ys = seam xs x ys

  -- a row that the world has
  pub row-stored : (front : List (Row Name)) (r : Row Name) (ids : List ℕ) (kept : PlainPending) → LeftIn w front ids kept → IsIn r.name (names_of (rows_of w)) → (id : ℕ) → id ≡ id_in same_name w r.name
      → LeftIn w (front ++ r ∷ []) (ids ++ id ∷ []) kept
  row-stored front r ids kept l i id e =
      let same : left_of same_name w front ≡ left_of same_name w (front ++ r ∷ []) = sym (left-there w front r i) in
      record {
        lossless = ap (first_missing same_name (names_of (rows_of w))) (sym same) ∙ l.lossless;
        ids_are = ap₂ (λ a b. a ++ b ∷ []) l.ids_are (e ∙ sym (w-id front r.name i)) ∙ sym (ap (map (new_id front)) (map-append (λ (q : Row Name). q.name) front (r ∷ [])) ∙ map-append (new_id front) (names_of front) (r.name ∷ []))
            ∙ ap (λ q. map (id_in same_name (with_pending w q)) (names_of (front ++ r ∷ []))) same;
        first = l.first;
        held = subst (λ q. HoldsRows kept (map (held_row (with_pending w q)) q)) same l.held;
      }

  -- the first of a row's parents that is lost is the first of all
  pub row-loses : (front rest : List (Row Name)) (r : Row Name) → rows ≡ front ++ r ∷ rest → (ids : List ℕ) (kept : PlainPending) → LeftIn w front ids kept
      → is_in same_name r.name (names_of (rows_of w)) ≡ false → (first : ℕ) → first ≡ length old.others → (fault : PlanFault) → LosesFirst before added first ids (held_row seen r).parents fault
      → (name : Name) × (fault ≡ Lost name) × (first_lost same_name w rows ≡ Some name)
  row-loses front rest r e ids kept l out first fe fault d =
      let p = get-map-back (id_in same_name seen) r.parents d.k d.parent d.parent_at in
      let early = earlier front rest r e in
      let pin : IsIn p.0 r.parents = item-at r.parents d.k p.0 p.1 in
      let gone = lost-missing front (r ∷ rest) e p.0 (early p.0 pin) d.lost.0 (subst (λ z. IsLost before added z d.lost.0) p.2 d.lost.2) in
      let seen_front = moved-all front (r ∷ rest) e first ids fe l.ids_are (take d.k r.parents) (λ q i. early q (take-in d.k r.parents q i)) d.moved
      (subst (λ xs. AllZip (IsMoved before added first ids) xs d.moved) (take-map (id_in same_name seen) d.k r.parents) d.front) in
      let known = names_of (rows_of w) ++ names_of (left_of same_name w front) in
      let not_there : is_in same_name p.0 known ≡ false = false_from_ne_true (is_in same_name p.0 known) (λ t. ⊎_elim gone.2
      (λ j. apart p.0 gone.1 front (r ∷ rest) (left-in front p.0 j) e) (in-append p.0 (names_of (rows_of w)) (names_of (left_of same_name w front)) (found same_name same_name-exact same_name-self p.0 known t))) in
      let row : first_outside same_name known r.parents ≡ Some p.0 = outside-at known r.parents d.k p.0 p.1 (λ y i. subst (IsIn y) (new-names front) (seen_front.0 y i)) not_there in
      let parts : left_of same_name w rows ≡ left_of same_name w front ++ r ∷ left_of same_name w rest =
      ap (left_of same_name w) e ∙ filter-join (λ q. not (is_in same_name q.name (names_of (rows_of w)))) front (r ∷ rest)
      ∙ ap (λ b. left_of same_name w front ++ cond (not b) (r ∷ left_of same_name w rest) (left_of same_name w rest)) out in (
        p.0,
        d.lost.1 ∙ ap Lost gone.0,
        ap (first_missing same_name (names_of (rows_of w))) parts
            ∙ missing-behind (names_of (rows_of w)) (left_of same_name w front) (r ∷ left_of same_name w rest) l.lossless
            ∙ ap (λ o. or_else o (first_missing same_name (known ++ r.name ∷ []) (left_of same_name w rest))) row,
      )
    where
      get-map-back : (f : Name → ℕ) (xs : List Name) (k : ℕ) (y : ℕ) → slice_get (map f xs) k ≡ Some y → (x : Name) × (slice_get xs k ≡ Some x) × (y ≡ f x)
      get-map-back f [] k y g = absurd (no-some y (sym g))
      get-map-back f (x ∷ xs) zero y g = (x, refl, sym (some-is (f x) y g))
      get-map-back f (x ∷ xs) (suc k) y g = get-map-back f xs k y g

      take-in : (k : ℕ) (xs : List Name) (x : Name) → IsIn x (take k xs) → IsIn x xs
      take-in zero xs x i = absurd i
      take-in (suc k) [] x i = i
      take-in (suc k) (y ∷ xs) x (inl g) = inl g
      take-in (suc k) (y ∷ xs) x (inr i) = inr (take-in k xs x i)

      take-map : (f : Name → ℕ) (k : ℕ) (xs : List Name) → take k (map f xs) ≡ map f (take k xs)
      take-map f zero xs = refl
      take-map f (suc k) [] = refl
      take-map f (suc k) (x ∷ xs) = ap (λ l. f x ∷ l) (take-map f k xs)

      left-in : (some : List (Row Name)) (x : Name) → IsIn x (names_of (left_of same_name w some)) → IsIn x (names_of some)
      left-in some x i = filtered-names (λ q. not (is_in same_name q.name (names_of (rows_of w)))) x some i

      -- a name of the base's others is no pending one
      apart : (x : Name) → IsIn x (names_of old.others) → (front more : List (Row Name)) → IsIn x (names_of front) → rows ≡ front ++ more → ⊥
      apart x i front more j parts =
          let a = at-name old.others x i in
          let ida : id_in same_name seen x ≡ other_id a.0 = ap (id_in same_name seen) (sym a.3) ∙ id-in-others same_name same_name-exact same_name-self seen hv a.0 a.1 (place-left old.others rows a.0 a.1 a.2) in
          let b = at-name front x j in
          let idb : id_in same_name seen x ≡ other_id (length old.others + b.0) = ap (id_in same_name seen) (sym b.3) ∙ id-in-others same_name same_name-exact same_name-self seen hv (length old.others + b.0) b.1
          (place-right old.others rows b.0 b.1 (subst (λ l. slice_get l b.0 ≡ Some b.1) (sym parts) (place-left front more b.0 b.1 b.2))) in
          let lt = get-under old.others a.0 a.1 a.2 in
          (let z : ⊥ = omega (arith, ida, idb, lt) in z)

  -- ---- ids are of one name

  same-row-name : (xs : List (Row Name)) (i j : ℕ) (r q : Row Name) → i ≡ j → slice_get xs i ≡ Some r → slice_get xs j ≡ Some q → r.name ≡ q.name
  same-row-name xs i j r q e a b = ap (name_or r) (sym a ∙ ap (slice_get xs) e ∙ b)
    where
      name_or : Row Name → Option (Row Name) → Name
      name_or d None = d.name
      name_or d (Some x) = x.name

  module _ (v : World Name) (whole : IsWorld v) (few : length v.master ≤ 16777216) where
    abbrev pub IsPlaced : Name → Type 0
    IsPlaced x = ((i : ℕ) × (r : Row Name) × (slice_get v.master i ≡ Some r) × (r.name ≡ x) × (id_in same_name v x ≡ i)) ⊎ ((i : ℕ) × (r : Row Name) × (slice_get v.others i ≡ Some r) × (r.name ≡ x) × (id_in same_name v x ≡ other_id i))

    pub placed : (x : Name) → IsIn x (names_of (rows_of v)) → IsPlaced x
    placed x i = ⊎_elim
        (λ j. let t = at-name v.master x j in inl (t.0, t.1, t.2, t.3, ap (id_in same_name v) (sym t.3) ∙ id-in-master same_name same_name-exact same_name-self v whole t.0 t.1 t.2))
        (λ j. let t = at-name v.others x j in inr (t.0, t.1, t.2, t.3, ap (id_in same_name v) (sym t.3) ∙ id-in-others same_name same_name-exact same_name-self v whole t.0 t.1 t.2))
        (in-append x (names_of v.master) (names_of v.others) (subst (IsIn x) (map-append (λ (r : Row Name). r.name) v.master v.others) i))

    pub one-id : (x y : Name) → IsIn x (names_of (rows_of v)) → IsIn y (names_of (rows_of v)) → id_in same_name v x ≡ id_in same_name v y → x ≡ y
    one-id x y i j e = by_place (placed x i) (placed y j)
      where
        by_place : IsPlaced x → IsPlaced y → x ≡ y
        by_place (inl a) (inl b) = sym a.3 ∙ same-row-name v.master a.0 b.0 a.1 b.1 (sym a.4 ∙ e ∙ b.4) a.2 b.2 ∙ b.3
        by_place (inl a) (inr b) = let f = a.4 in let g = b.4 in let l = get-under v.master a.0 a.1 a.2 in let k : 16777216 ≤ 2 ^ 56 = lit≤ tt in absurd (let z : ⊥ = omega (arith, f, g, e, l, few, k) in z)
        by_place (inr a) (inl b) = let f = a.4 in let g = b.4 in let l = get-under v.master b.0 b.1 b.2 in let k : 16777216 ≤ 2 ^ 56 = lit≤ tt in absurd (let z : ⊥ = omega (arith, f, g, e, l, few, k) in z)
        by_place (inr a) (inr b) = let f = a.4 in let g = b.4 in sym a.3 ∙ same-row-name v.others a.0 b.0 a.1 b.1 (omega (arith, f, g, e)) a.2 b.2 ∙ b.3

    pub ids-distinct : (xs : List Name) → ((x : Name) → IsIn x xs → IsIn x (names_of (rows_of v))) → AreDistinct xs → AreDistinct (map (id_in same_name v) xs)
    ids-distinct [] h d = tt
    ids-distinct (x ∷ xs) h d = (
      (λ i. let r = map-in-back (id_in same_name v) (id_in same_name v x) xs i in d.0 (subst (λ z. IsIn z xs) (sym (one-id x r.0 (h x (inl refl)) (h r.0 (inr r.1)) r.2)) r.1)),
      ids-distinct xs (λ y i. h y (inr i)) d.1,
    )

    pub same-ids : (xs ys : List Name) → ((x : Name) → IsIn x xs → IsIn x (names_of (rows_of v))) → ((y : Name) → IsIn y ys → IsIn y (names_of (rows_of v)))
        → pointwise nat_eq (map (id_in same_name v) xs) (map (id_in same_name v) ys) ≡ pointwise same_name xs ys
    same-ids [] [] f g = refl
    same-ids [] (y ∷ ys) f g = refl
    same-ids (x ∷ xs) [] f g = refl
    same-ids (x ∷ xs) (y ∷ ys) f g = ap₂ (λ a b. a && b) (one (same_name x y) refl) (same-ids xs ys (λ z i. f z (inr i)) (λ z i. g z (inr i)))
      where
        one : (b : Bool) → same_name x y ≡ b → nat_eq (id_in same_name v x) (id_in same_name v y) ≡ same_name x y
        one true e = ap (λ z. nat_eq (id_in same_name v x) (id_in same_name v z)) (sym (same_name-exact x y e)) ∙ eq-eqb (id_in same_name v x) (id_in same_name v x) refl ∙ sym e
        one false e = false_from_ne_true (nat_eq (id_in same_name v x) (id_in same_name v y)) (λ t. true≢false (sym (same_name-self x) ∙ ap (same_name x) (one-id x y (f x (inl refl)) (g y (inl refl)) (exact_unsigned_eq (id_in same_name v x) (id_in same_name v y) t)) ∙ e)) ∙ sym e

  row-next : (front rest : List (Row Name)) (r : Row Name) → rows ≡ front ++ r ∷ rest → AreDistinct r.parents
  row-next front rest r e =
      let h : IsHistory [] (rows_of old ++ (front ++ r ∷ rest)) = subst (IsHistory []) (sym (append_assoc old.master old.others rows) ∙ ap (λ l. rows_of old ++ l) e) hv in
      (history-rest [] (rows_of old ++ front) (r ∷ rest) (subst (IsHistory []) (sym (append_assoc (rows_of old) front (r ∷ rest))) h)).0.distinct

  -- the new parents of a row are distinct
  pub moved-distinct : (front rest : List (Row Name)) (r : Row Name) → rows ≡ front ++ r ∷ rest → first_lost same_name w front ≡ None → (moved : List ℕ)
      → ((p : Name) → IsIn p r.parents → IsIn p (names_of (rows_of (new_at front)))) → moved ≡ map (new_id front) r.parents → AreDistinct moved
  moved-distinct front rest r e lossless moved f m =
      subst AreDistinct (sym m) (ids-distinct (new_at front) (front-world front (r ∷ rest) e lossless) small r.parents f (row-next front rest r e))

  -- ---- a row that is stored

  pub found-there : (x : Name) (o : Option ℕ) (id : ℕ) → o ≡ stored_id w x → o ≡ Some id → IsIn x (names_of (rows_of w)) × (id ≡ id_in same_name w x)
  found-there x o id e f = by_test (is_in same_name x (names_of (rows_of w))) refl
    where
      by_test : (b : Bool) → is_in same_name x (names_of (rows_of w)) ≡ b → IsIn x (names_of (rows_of w)) × (id ≡ id_in same_name w x)
      by_test true t =
          let s : Some id ≡ Some (id_in same_name w x) = sym f ∙ e ∙ ap (λ b. if b then Some (id_in same_name w x) else None) t in
          (found same_name same_name-exact same_name-self x (names_of (rows_of w)) t, some-is id (id_in same_name w x) s)
      by_test false t = absurd (no-some id (sym f ∙ e ∙ ap (λ b. if b then Some (id_in same_name w x) else None) t))

  pub found-none : (x : Name) (o : Option ℕ) → o ≡ stored_id w x → o ≡ None → is_in same_name x (names_of (rows_of w)) ≡ false
  found-none x o e f = by_test (is_in same_name x (names_of (rows_of w))) refl
    where
      by_test : (b : Bool) → is_in same_name x (names_of (rows_of w)) ≡ b → is_in same_name x (names_of (rows_of w)) ≡ false
      by_test true t = absurd (no-some (id_in same_name w x) (sym (sym f ∙ e ∙ ap (λ b. if b then Some (id_in same_name w x) else None) t)))
      by_test false t = t

  -- what was found of the row at this place
  found-at : (all : List (Row Name)) (k : ℕ) (r : Row Name) → slice_get all k ≡ Some r → slice_get (map (stored_id w) (names_of all)) k ≡ Some (stored_id w r.name)
  found-at [] k r e = absurd (no-some r (sym e))
  found-at (q ∷ all) zero r e = ap (λ (z : Row Name). Some (stored_id w z.name)) (some-is q r e)
  found-at (q ∷ all) (suc k) r e = found-at all k r e

  module _ (first : ℕ) (fe : first ≡ length old.others) where
    -- where a parent is in the world
    pub at-id : (front more : List (Row Name)) → rows ≡ front ++ more → (p : Name) (id : ℕ) → Earlier front p → IsAt before added first (map (stored_id w) (names_of rows)) (id_in same_name seen p) id
        → IsIn p (names_of (rows_of w)) × (id ≡ id_in same_name w p)
    at-id front more parts p id h m = ⊎_elim
        (λ o. let a = o.1 in let b = o.2 in (o.3, m.master (let z : id_in same_name seen p < 2 ^ 56 = omega (arith, a, b) in z) ∙ o.2 ∙ sym o.4))
        (λ h2. ⊎_elim
        (λ o. stored-id (record { id = id; name = p }) (m.stored o.0 p o.2 o.4))
        (λ q.
        let at : slice_get rows q.0 ≡ Some q.1 = subst (λ l. slice_get l q.0 ≡ Some q.1) (sym parts) (place-left front more q.0 q.1 q.2) in
        let o = m.pending q.0 (stored_id w q.1.name) (q.4 ∙ ap (λ n. other_id (n + q.0)) (sym fe)) (found-at rows q.0 q.1 at) in
        let r = found-there q.1.name (stored_id w q.1.name) id refl o in
        (subst (λ x. IsIn x (names_of (rows_of w))) q.3 r.0, r.1 ∙ ap (id_in same_name w) q.3))
        h2)
        (stands front more parts p h)

    pub nowhere : (front more : List (Row Name)) → rows ≡ front ++ more → (p : Name) → Earlier front p → IsNowhere before added first (map (stored_id w) (names_of rows)) (id_in same_name seen p) → IsIn p (names_of (rows_of w)) → ⊥
    nowhere front more parts p h (inl l) i = (lost-missing front more parts p h l.0 l.1).2 i
    nowhere front more parts p h (inr n) i = ⊎_elim
        (λ o. let a = o.1 in let b = o.2 in let c = n.1 in (let z : ⊥ = omega (arith, a, b, c) in z))
        (λ h2. ⊎_elim
        (λ o. let a = o.1 in let b = o.2 in let c = n.1 in (let z : ⊥ = omega (arith, a, b, c, fe) in z))
        (λ q.
        let b = q.4 in let c = n.1 in let same : q.0 ≡ n.0 = omega (arith, b, c, fe) in
        let at : slice_get rows q.0 ≡ Some q.1 = subst (λ l. slice_get l q.0 ≡ Some q.1) (sym parts) (place-left front more q.0 q.1 q.2) in
        let o : stored_id w q.1.name ≡ None = some-is (stored_id w q.1.name) None (sym (found-at rows q.0 q.1 at) ∙ ap (slice_get (map (stored_id w) (names_of rows))) same ∙ n.2) in
        true≢false (sym (there same_name same_name-exact same_name-self p (names_of (rows_of w)) i) ∙ ap (λ x. is_in same_name x (names_of (rows_of w))) (sym q.3) ∙ found-none q.1.name (stored_id w q.1.name) refl o))
        h2)
        (stands front more parts p h)

    at-all : (front more : List (Row Name)) → rows ≡ front ++ more → (ps : List Name) → ((p : Name) → IsIn p ps → Earlier front p) → (ids : List ℕ)
        → AllZip (IsAt before added first (map (stored_id w) (names_of rows))) (map (id_in same_name seen) ps) ids → ((p : Name) → IsIn p ps → IsIn p (names_of (rows_of w))) × (ids ≡ map (id_in same_name w) ps)
    at-all front more parts [] f [] h = ((λ p i. absurd i), refl)
    at-all front more parts [] f (x ∷ ids) h = absurd h
    at-all front more parts (p ∷ ps) f [] h = absurd h
    at-all front more parts (p ∷ ps) f (x ∷ ids) h =
        let one = at-id front more parts p x (f p (inl refl)) h.0 in
        let others = at-all front more parts ps (λ q i. f q (inr i)) ids h.1 in
        ((λ q i. ⊎_elim (λ e. subst (λ z. IsIn z (names_of (rows_of w))) (sym e) one.0) (λ j. others.0 q j) i), ap₂ (λ a b. a ∷ b) one.1 others.1)

    module _ (flats : List Segment) (segs : AreSegmentsOf w flats) where
      pub record Stored (x : Name) : Type 0 where
        pub row : Row Name
        pub row_is : row_named same_name (rows_of w) x ≡ Some row
        pub parents_are : parents_at flats (id_in same_name w x) ≡ map (id_in same_name w) row.parents
        pub parents_in : (p : Name) → IsIn p row.parents → IsIn p (names_of (rows_of w))

      parents-of : (q : Row Name) → IsIn q (rows_of w) → (p : Name) → IsIn p q.parents → IsIn p (names_of (rows_of w))
      parents-of q i p j = in-all p q.parents (names_of (rows_of w)) j (parents-known [] (rows_of w) hw q i)

      pub stored-row : (x : Name) → IsIn x (names_of (rows_of w)) → Stored x
      stored-row x i = ⊎_elim
          (λ j.
          let t = at-name w.master x j in
          let lt = get-under w.master t.0 t.1 t.2 in
          let id = id-in-master same_name same_name-exact same_name-self w hw t.0 t.1 t.2 in
          let at = place-left w.master w.others t.0 t.1 t.2 in
          record {
            row = t.1;
            row_is = ap (row_named same_name (rows_of w)) (sym t.3) ∙ named-at same_name same_name-exact same_name-self [] (rows_of w) t.0 t.1 hw at;
            parents_are = ap (λ n. parents_at flats n) (ap (id_in same_name w) (sym t.3) ∙ id)
                ∙ segs.parents t.0 t.1 (chosen (is_master_id t.0) (slice_get w.master t.0) (slice_get w.others (t.0 - 2 ^ 56)) (below-master t.0 (let s = small in let k : 16777216 ≤ 2 ^ 56 = lit≤ tt in omega (arith, lt, s, k))) ∙ t.2);
            parents_in = parents-of t.1 (item-at (rows_of w) t.0 t.1 at);
          })
          (λ j.
          let t = at-name w.others x j in
          let id = id-in-others same_name same_name-exact same_name-self w hw t.0 t.1 t.2 in
          let at = place-right w.master w.others t.0 t.1 t.2 in
          record {
            row = t.1;
            row_is = ap (row_named same_name (rows_of w)) (sym t.3) ∙ named-at same_name same_name-exact same_name-self [] (rows_of w) (length w.master + t.0) t.1 hw at;
            parents_are = ap (λ n. parents_at flats n) (ap (id_in same_name w) (sym t.3) ∙ id)
                ∙ segs.parents (other_id t.0) t.1 (left-out (is_master_id (other_id t.0)) (slice_get w.master (other_id t.0)) (slice_get w.others (other_id t.0 - 2 ^ 56)) (over-master t.0) ∙ ap (slice_get w.others) (other-place t.0) ∙ t.2);
            parents_in = parents-of t.1 (item-at (rows_of w) (length w.master + t.0) t.1 at);
          })
          (in-append x (names_of w.master) (names_of w.others) (subst (IsIn x) (map-append (λ (r : Row Name). r.name) w.master w.others) i))

      -- whether a row that the world has conflicts with it
      pub row-agrees : (front rest : List (Row Name)) (r : Row Name) → rows ≡ front ++ r ∷ rest → (id : ℕ) → IsIn r.name (names_of (rows_of w)) → id ≡ id_in same_name w r.name → (same : Bool)
          → AreStoredAs before added first (map (stored_id w) (names_of rows)) (parents_at flats id) (held_row seen r).parents same → conflicts same_name w r ≡ not same
      row-agrees front rest r e id i ie same h =
          let s = stored-row r.name i in
          let is : conflicts same_name w r ≡ not (pointwise same_name s.row.parents r.parents) =
          ap₂ (λ b o. b && not (has_parents same_name o r.parents)) (there same_name same_name-exact same_name-self r.name (names_of (rows_of w)) i) s.row_is in
          is ∙ ap not (by_case s h)
        where
          in-map : (xs : List Name) (y : ℕ) → IsIn y (map (id_in same_name seen) xs) → (x : Name) × IsIn x xs × (y ≡ id_in same_name seen x)
          in-map xs y j = map-in-back (id_in same_name seen) y xs j

          by_case : (s : Stored r.name) → AreStoredAs before added first (map (stored_id w) (names_of rows)) (parents_at flats id) (held_row seen r).parents same → pointwise same_name s.row.parents r.parents ≡ same
          by_case s (inl n) =
              let p = in-map r.parents n.1.0 n.1.1 in
              false_from_ne_true (pointwise same_name s.row.parents r.parents)
              (λ t. nowhere front (r ∷ rest) e p.0 (earlier front rest r e p.0 p.1) (subst (IsNowhere before added first (map (stored_id w) (names_of rows))) p.2 n.1.2)
              (s.parents_in p.0 (subst (IsIn p.0) (sym (pw-exact s.row.parents r.parents t)) p.1))) ∙ sym n.0
          by_case s (inr n) =
              let all = at-all front (r ∷ rest) e r.parents (earlier front rest r e) n.0 n.1 in
              sym (same-ids w hw small s.row.parents r.parents s.parents_in all.0)
              ∙ ap₂ (λ a b. pointwise nat_eq a b) (sym (ap (parents_at flats) ie ∙ s.parents_are)) (sym all.1) ∙ sym n.2
