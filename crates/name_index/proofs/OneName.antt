-- A name alone that is put among others.
use Rattle.std.proofs.Common.{◌≡◌, ◌∙◌, ◌<◌, ◌≤◌, ◌+◌, refl, sym, ap, ap₂, subst, ℕ, zero, suc, length, get_or, set, List, [], ◌∷◌, ◌++◌, map, take, drop, true, false, arith, zero-le, inl, inr, Less, Equal, Greater, nat_cmp, is_lt, append-nil, take-append-drop}
use Rattle.std.specs.Prelude.{insert}
use Rattle.std.specs.Ordering.{ordering_index}
use Rattle.std.specs.Cmp.Lexicographic.{slice_cmp}
use Rattle.std.specs.List.{AllByRecursion, HoldsAt}
use Rattle.std.specs.List.Sorted.{IsPermutation, IsNonDecreasingBy, IsPartitionPoint}
use Rattle.std.proofs.lemmas.List.{drop-map, take-map, get_or-map, get_or_default, map-append, length-map}
use Rattle.std.proofs.lemmas.List.Sorted.{IsPermutation-sym, IsPermutation-map, IsPermutation-trans, IsPermutation-middle, IsPermutation-append, IsPermutation-refl}
use Rattle.id_groups.specs.Lists.{IsIn, AreDistinct}
use Rattle.id_groups.specs.Name.{Name}
use Rattle.name_index.specs.declared.entry.Entry.{Entry}
use Rattle.name_index.specs.Index.{IsIndexOf}
use Rattle.name_index.specs.Runs.{entry_of, sort_key, key_in, keys_in, keys_of, IsAscending, IsRun, Holds, AreRuns, MayStandAt, joined}
use Rattle.name_index.specs.Named.{NamedPlace, NamesStand, StandFrom, names_in}
use Rattle.name_index.proofs.Keys.{less, order}
use Rattle.name_index.proofs.Reading.{run-keys, rises, search-found}
use Rattle.name_index.proofs.Moves.{distinct-moved}
use Rattle.name_index.proofs.Indexes.{name-of, all-left, all-right, all-both, name-right, runs-stand}
use Rattle.name_index.proofs.Inserting.{names-back, distinct-both, runs-drop, runs-push, joined-append, put-behind}

-- what holds of each before a place, and of each behind it

module _ {X : Type 0} (P : X → Type 0) where
  front-all : (xs : List X) (i : ℕ) → ((k : ℕ) (d : X) → k < i → k < length xs → P (get_or xs k d)) → AllByRecursion P (take i xs)
  front-all xs zero h = tt
  front-all [] (suc i) h = tt
  front-all (x ∷ xs) (suc i) h = (h 0 x (omega arith) (omega arith), front-all xs i (λ k d l m. h (suc k) d (omega (arith, l)) (omega (arith, m))))

  back-all : (xs : List X) (i : ℕ) → ((k : ℕ) (d : X) → i ≤ k → k < length xs → P (get_or xs k d)) → AllByRecursion P (drop i xs)
  back-all [] zero h = tt
  back-all (x ∷ xs) zero h = (h 0 x zero-le (omega arith), back-all xs zero (λ k d l m. h (suc k) d zero-le (omega (arith, m))))
  back-all [] (suc i) h = tt
  back-all (x ∷ xs) (suc i) h = back-all xs i (λ k d l m. h (suc k) d (omega (arith, l)) (omega (arith, m)))

-- the place that a search finds between the keys
pub placed-for : (at : ℕ) (bytes : List ℕ) (entries : List Entry) (held : List NamedPlace) (key key' : List ℕ) (i : ℕ) → IsRun entries held → StandFrom at bytes held → key ≡ key'
    → (IsNonDecreasingBy (λ (y : Entry). ordering_index (slice_cmp nat_cmp (key_in bytes at y) key)) entries
    → IsPartitionPoint (λ (y : Entry). slice_cmp nat_cmp (key_in bytes at y) key ≡ Less) (λ y. slice_cmp nat_cmp (key_in bytes at y) key ≡ Greater) entries i)
    → MayStandAt key' (keys_of held) i
placed-for at bytes entries held key key' i run h named parted =
    let point = parted (rises at bytes entries held key run h) in
    let none : Entry = record { front = 0; place = 0 } in
    let long = length-map entries (key_in bytes at) in
    subst (λ ks. MayStandAt key' ks i) (run-keys at bytes entries held run.entries_of h) (subst (λ k. MayStandAt k (keys_in bytes at entries) i) named (record {
      front = front-all (λ m. less m key ≡ true) (keys_in bytes at entries) i (λ k d l m.
          ap (λ z. less z key) (get_or-map (key_in bytes at) entries k none d (omega (arith, m, long))) ∙ ap is_lt (point.0 k none zero-le l));
      back = back-all (λ m. less m key ≡ false) (keys_in bytes at entries) i (λ k d l m.
          ap (λ z. less z key) (get_or-map (key_in bytes at) entries k none d (omega (arith, m, long))) ∙ ap is_lt (point.1 k none l (omega (arith, m, long))));
    }))

-- a search finds no name that isn't held
pub not-held : (at : ℕ) (bytes : List ℕ) (entries : List Entry) (held : List NamedPlace) (name : Name) (key : List ℕ) (i : ℕ) → IsRun entries held → StandFrom at bytes held → key ≡ sort_key name
    → i < length entries → HoldsAt (λ (y : Entry). slice_cmp nat_cmp (key_in bytes at y) key ≡ Equal) entries i → (IsIn name (names_in held) → ⊥) → ⊥
not-held at bytes entries held name key i run h named l equal out =
    let none : Entry = record { front = 0; place = 0 } in
    let entry = get_or entries i none in
    out (name-of _ held (search-found at bytes entries held name key i entry run h named l (get_or_default entries i none entry l) (equal entry)))

-- keys that ascend with one more in its place
insert-ascends : (k : List ℕ) (ks : List (List ℕ)) (i : ℕ) → IsAscending ks → MayStandAt k ks i → IsAscending (take i ks ++ k ∷ drop i ks)
insert-ascends k ks zero up m = (m.back, up)
insert-ascends k [] (suc i) up m = (tt, tt)
insert-ascends k (x ∷ xs) (suc i) up m =
    let P = λ (z : List ℕ). less z x ≡ false in
    let rest = subst (AllByRecursion P) (sym (take-append-drop i xs)) up.0 in (
      all-both P (take i xs) (k ∷ drop i xs) (all-left P (take i xs) (drop i xs) rest) (order.one_way x k m.front.0, all-right P (take i xs) (drop i xs) rest),
      insert-ascends k xs i up.1 (record { front = m.front.1; back = m.back }),
    )

put-image : {X Y : Type 0} (f : X → Y) (i : ℕ) (x : X) (xs : List X) → map f (take i xs ++ x ∷ drop i xs) ≡ take i (map f xs) ++ f x ∷ drop i (map f xs)
put-image f i x xs = map-append f (take i xs) (x ∷ drop i xs) ∙ ap₂ (λ a b. a ++ f x ∷ b) (sym (take-map f i xs)) (sym (drop-map f i xs))

-- a run with one more entry in its place
pub holds-one : (entries : List Entry) (held : List NamedPlace) (entry : Entry) (n : NamedPlace) (i : ℕ) → IsRun entries held → entry ≡ entry_of n → MayStandAt (sort_key n.name) (keys_of held) i
    → Holds (insert entries i entry) (held ++ n ∷ [])
holds-one entries held entry n i run e m =
    let more = take i held ++ n ∷ drop i held in
    let key = λ (z : NamedPlace). sort_key z.name in
    let one = IsPermutation-middle held n [] in
    let two = IsPermutation-middle (take i held) n (drop i held) in
    let three = subst (λ l. IsPermutation (held ++ n ∷ []) (n ∷ l)) (append-nil held ∙ sym (take-append-drop i held)) one in
    record {
      held = more;
      run = record {
        entries_of = ap₂ (λ es z. take i es ++ z ∷ drop i es) run.entries_of e ∙ sym (put-image entry_of i n held);
        ascending = subst IsAscending (sym (put-image key i n held)) (insert-ascends (key n) (keys_of held) i run.ascending m);
      };
      same = IsPermutation-trans _ _ _ three (IsPermutation-sym _ _ two);
    }

pub set-last : {X : Type 0} (xs : List X) (i : ℕ) (y : X) → length xs ≡ i + 1 → set xs i y ≡ take i xs ++ y ∷ []
set-last [] i y e = absurd (omega (arith, e))
set-last (x ∷ []) zero y e = refl
set-last (x ∷ z ∷ xs) zero y e = absurd (omega (arith, e))
set-last (x ∷ xs) (suc i) y e = ap (λ l. x ∷ l) (set-last xs i y (omega (arith, e)))

-- an index with one more name, which it doesn't hold

distinct-one : (runs : List (List Entry)) (all : List NamedPlace) (n : NamedPlace) (is : IsIndexOf runs all) → (IsIn n.name (names_in all) → ⊥)
    → AreDistinct (names_in (joined is.held)) → AreDistinct (names_in (joined is.held ++ n ∷ []))
distinct-one runs all n is out h = distinct-both (joined is.held) (n ∷ []) h ((λ i. i), tt) apart
  where
    apart : (name : Name) → IsIn name (names_in (joined is.held)) → IsIn name (names_in (n ∷ [])) → ⊥
    apart name i (inl e) = out (subst (λ z. IsIn z (names_in all)) e (names-back all (joined is.held) is.same name i))
    apart name i (inr j) = j

-- its run of one name stands behind the others
pub pushed-one : (runs : List (List Entry)) (all : List NamedPlace) (entry : Entry) (n : NamedPlace) → IsIndexOf runs all → entry ≡ entry_of n → (IsIn n.name (names_in all) → ⊥)
    → IsIndexOf (runs ++ (entry ∷ []) ∷ []) (all ++ n ∷ [])
pushed-one runs all entry n is e out =
    let one = IsPermutation-append all (joined is.held) (n ∷ []) (n ∷ []) is.same (IsPermutation-refl (n ∷ [])) in
    let once = distinct-one runs all n is out (distinct-moved _ _ (IsPermutation-map (λ z. z.name) all (joined is.held) is.same) is.distinct) in
    record {
      held = is.held ++ (n ∷ []) ∷ [];
      in_order = runs-push runs is.held (entry ∷ []) (n ∷ []) is.in_order (record { entries_of = ap (λ z. z ∷ []) e; ascending = (tt, tt) });
      same = subst (λ l. IsPermutation (all ++ n ∷ []) l) (sym (joined-append is.held ((n ∷ []) ∷ []))) one;
      distinct = distinct-moved _ _ (IsPermutation-sym _ _ (IsPermutation-map (λ z. z.name) (all ++ n ∷ []) (joined is.held ++ n ∷ []) one)) once;
    }

module _ (bytes : List ℕ) (runs : List (List Entry)) (all : List NamedPlace) (is : IsIndexOf runs all) (stand : NamesStand bytes all) where
  behind-stands : (kept : ℕ) → AllByRecursion (StandFrom 0 bytes) (drop kept is.held)
  behind-stands kept = all-right (StandFrom 0 bytes) (take kept is.held) (drop kept is.held) (subst (AllByRecursion (StandFrom 0 bytes)) (sym (take-append-drop kept is.held)) (runs-stand bytes all is.held is.same stand))

  behind-named : (kept : ℕ) (name : Name) → IsIn name (names_in (joined (drop kept is.held))) → IsIn name (names_in all)
  behind-named kept name i =
      let split : joined (take kept is.held) ++ joined (drop kept is.held) ≡ joined is.held = sym (joined-append (take kept is.held) (drop kept is.held)) ∙ ap joined (take-append-drop kept is.held) in
      names-back all (joined is.held) is.same name (subst (λ l. IsIn name (names_in l)) split (name-right name (joined (take kept is.held)) (joined (drop kept is.held)) i))

  -- the runs that are due merged to one
  pub settled : (kept : ℕ) (merged : List Entry) → ((held : List (List NamedPlace)) → AreRuns (drop kept runs) held → AllByRecursion (StandFrom 0 bytes) held → Holds merged (joined held))
      → IsIndexOf (take kept runs ++ merged ∷ []) all
  settled kept merged due =
      let back = drop kept is.held in
      let holds = due back (runs-drop kept runs is.held is.in_order) (behind-stands kept) in
      subst (IsIndexOf (take kept runs ++ merged ∷ [])) (append-nil all)
      (put-behind runs kept merged all [] is (subst (Holds merged) (sym (append-nil (joined back))) holds) (λ h. subst (λ l. AreDistinct (names_in l)) (sym (append-nil (joined is.held))) h))

  -- the last run with one name more
  pub last-more : (before : ℕ) (last put : List Entry) (n : NamedPlace) → length runs ≡ before + 1 → last ≡ get_or runs before last → (IsIn n.name (names_in all) → ⊥)
      → ((held : List NamedPlace) → IsRun last held → StandFrom 0 bytes held → (IsIn n.name (names_in held) → ⊥) → Holds put (held ++ n ∷ []))
      → IsIndexOf (take before runs ++ put ∷ []) (all ++ n ∷ [])
  last-more before last put n long e out by =
      let order = subst (λ rs. AreRuns rs (drop before is.held)) (last-of runs before long e) (runs-drop before runs is.held is.in_order) in
      put-behind runs before put all (n ∷ []) is (from-last (drop before is.held) order (behind-stands before) (λ i. out (behind-named before n.name i))) (distinct-one runs all n is out)
    where
      last-of : (rs : List (List Entry)) (b : ℕ) → length rs ≡ b + 1 → last ≡ get_or rs b last → drop b rs ≡ last ∷ []
      last-of [] b l e = absurd (omega (arith, l))
      last-of (r ∷ []) zero l e = ap (λ z. z ∷ []) (sym e)
      last-of (r ∷ t ∷ rs) zero l e = absurd (omega (arith, l))
      last-of (r ∷ rs) (suc b) l e = last-of rs b (omega (arith, l)) e

      from-last : (back : List (List NamedPlace)) → AreRuns (last ∷ []) back → AllByRecursion (StandFrom 0 bytes) back → (IsIn n.name (names_in (joined back)) → ⊥) → Holds put (joined back ++ n ∷ [])
      from-last [] r s out = absurd r
      from-last (h ∷ []) r s out = subst (λ l. Holds put (l ++ n ∷ [])) (sym (append-nil h)) (by h r.0 s.0 (λ i. out (subst (λ l. IsIn n.name (names_in l)) (sym (append-nil h)) i)))
      from-last (h ∷ g ∷ gs) r s out = absurd r.1
