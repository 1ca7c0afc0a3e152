-- Going over clone data, item by item.
use Rattle.std.proofs.Common.{◌≡◌, ◌≤◌, ◌<◌, ◌+◌, ◌-◌, ◌&&◌, ◌||◌, not, cond, ℕ, zero, suc, Bool, true, false, ◌⊎◌, inl, inr, List, [], ◌∷◌, ◌++◌, length, map, filter, take, drop, get_or, nat_eq, nat_lt, nat_le, Option, Some, None, is_some, refl, sym, ap, subst, ◌∙◌, ⊎_elim, true≢false, arith, append-nil, append_assoc, add-one, if◌then◌else◌}
use Rattle.std.specs.Prelude.{slice_get, flat_map, MatchOption, ◌≢◌}
use Rattle.std.specs.BTreeSet.{BTreeSet, contains, Updates}
use Rattle.std.specs.Cmp.Lexicographic.{slice_cmp, texts_ties}
use Rattle.std.specs.List.{list_all, list_any}
use Rattle.std.specs.Option.{option_to_list}
use Rattle.std.specs.Ordering.{nat_cmp}
use Rattle.std.proofs.Math.Seq.{drop-cons, take-suc}
use Rattle.std.proofs.lemmas.Bool.{ltb-true, lt-ltb, leb-true, le-leb, eq-eqb, false_from_ne_true}
use Rattle.std.proofs.lemmas.Map.Views.{exact_unsigned_eq}
use Rattle.std.specs.List.Sorted.{IsPartitionedBy, IsPartitionPoint}
use Rattle.std.proofs.lemmas.Option.{slice_get_within, slice_get_read}
use Rattle.std.proofs.lemmas.List.{map-append}
use Rattle.segment_codec.specs.Reading.{are_distinct}
use Rattle.id_groups.specs.Lists.{is_in}
use Rattle.id_groups.specs.Name.{Name, same_name}
use Rattle.id_groups.proofs.Names.{same_name-exact, same_name-self}
use Rattle.id_groups.proofs.Listing.{and_true}
use Rattle.segment_codec.proofs.Tables.{le_or_lt}
use Rattle.segment_codec.specs.Record.{Segment}
use Rattle.segment_codec.specs.Turns.{place_behind}
use Rattle.remote_rules.specs.CloneData.{CloneData, KnownName, first_broken, segment_fits, segments_fit, name_fits, names_fit, merge_parents, names_at, heads_fit, first_false, first_some}
use Rattle.remote_trait.specs.Broken.{AscendFrom, HasSeen}

-- one more item in front of what is dropped
pub behind : {X : Type 0} (xs : List X) (i : ℕ) (y : X) → i < length xs → y ≡ get_or xs i y → drop i xs ≡ y ∷ drop (i + 1) xs
behind xs i y below is = rw add-one (drop-cons xs i y below ∙ ap (λ z. z ∷ drop (suc i) xs) (sym is))

-- one more item at the end of what is taken
pub before : {X : Type 0} (xs : List X) (i : ℕ) (y : X) → i < length xs → y ≡ get_or xs i y → take (i + 1) xs ≡ take i xs ++ y ∷ []
before xs i y below is = rw add-one (take-suc xs i y below ∙ ap (λ z. take i xs ++ z ∷ []) (sym is))

pub none-behind : {X : Type 0} (xs : List X) (i : ℕ) → length xs ≤ i → drop i xs ≡ []
none-behind [] zero h = refl
none-behind [] (suc i) h = refl
none-behind (x ∷ xs) zero h = absurd (omega (arith, h))
none-behind (x ∷ xs) (suc i) h = none-behind xs i (omega (arith, h))

-- the first test of some
pub passes : (n : ℕ) (b : Bool) (more : List Bool) → b ≡ true → first_false n (b ∷ more) ≡ first_false (n + 1) more
passes n b more e = ap (λ c. if c then first_false (n + 1) more else Some n) e

pub fails : (n : ℕ) (b : Bool) (more : List Bool) → b ≡ false → first_false n (b ∷ more) ≡ Some n
fails n b more e = ap (λ c. if c then first_false (n + 1) more else Some n) e

-- ---- segments

pub segment-next : (segments : List Segment) (place k : ℕ) (s : Segment) → first_false 0 (segments_fit 0 segments) ≡ first_false k (segments_fit place (drop k segments))
    → k < length segments → s ≡ get_or segments k s → true ≡ segment_fits place s
    → first_false 0 (segments_fit 0 segments) ≡ first_false (k + 1) (segments_fit (s.high + 1) (drop (k + 1) segments))
segment-next segments place k s h lt is e =
    h ∙ ap (λ l. first_false k (segments_fit place l)) (behind segments k s lt is) ∙ passes k (segment_fits place s) (segments_fit (s.high + 1) (drop (k + 1) segments)) (sym e)

pub segment-bad : (segments : List Segment) (place k : ℕ) (s : Segment) → first_false 0 (segments_fit 0 segments) ≡ first_false k (segments_fit place (drop k segments))
    → k < length segments → s ≡ get_or segments k s → false ≡ segment_fits place s → Some k ≡ first_false 0 (segments_fit 0 segments)
segment-bad segments place k s h lt is e =
    sym (h ∙ ap (λ l. first_false k (segments_fit place l)) (behind segments k s lt is) ∙ fails k (segment_fits place s) (segments_fit (s.high + 1) (drop (k + 1) segments)) (sym e))

pub segments-end : (segments : List Segment) (place k : ℕ) → first_false 0 (segments_fit 0 segments) ≡ first_false k (segments_fit place (drop k segments)) → length segments ≤ k
    → None ≡ first_false 0 (segments_fit 0 segments)
segments-end segments place k h le = sym (h ∙ ap (λ l. first_false k (segments_fit place l)) (none-behind segments k le))

pub place-last : (segments : List Segment) (place k : ℕ) (s : Segment) → k + 1 ≡ length segments → slice_get segments k ≡ Some s → place_behind place segments ≡ s.high + 1
place-last [] place k s h e = cc
place-last (t ∷ []) place zero s h e = let is : t ≡ s = cc in ap (λ (z : Segment). z.high + 1) is
place-last (t ∷ []) place (suc k) s h e = absurd (omega (arith, h))
place-last (t ∷ u ∷ more) place zero s h e = absurd (omega (arith, h))
place-last (t ∷ u ∷ more) place (suc k) s h e = place-last (u ∷ more) (t.high + 1) k s (omega (arith, h)) e

lt-sym : (a b : ℕ) → nat_eq a b ≡ nat_eq b a
lt-sym a b = by_test (nat_eq a b) (nat_eq b a) refl refl
  where
    by_test : (x y : Bool) → nat_eq a b ≡ x → nat_eq b a ≡ y → x ≡ y
    by_test true true e f = refl
    by_test false false e f = refl
    by_test true false e f = absurd (true≢false (sym (eq-eqb b a (sym (exact_unsigned_eq a b e))) ∙ f))
    by_test false true e f = absurd (true≢false (sym (eq-eqb a b (sym (exact_unsigned_eq b a f))) ∙ e))

any-is : (n : ℕ) (xs : List ℕ) → list_any (λ y. nat_eq y n) xs ≡ is_in nat_eq n xs
any-is n [] = refl
any-is n (x ∷ xs) = ap (λ b. b || list_any (λ y. nat_eq y n) xs) (lt-sym x n) ∙ ap (λ b. nat_eq n x || b) (any-is n xs)

number-behind : (xs : List ℕ) (k : ℕ) → k < length xs → drop k xs ≡ get_or xs k 0 ∷ drop (k + 1) xs
number-behind xs k lt = rw add-one (drop-cons xs k 0 lt)

number-before : (xs : List ℕ) (k : ℕ) → k < length xs → take (k + 1) xs ≡ take k xs ++ get_or xs k 0 ∷ []
number-before xs k lt = rw add-one (take-suc xs k 0 lt)

module _ (numbers : List ℕ) (k : ℕ) (h : are_distinct numbers ≡ are_distinct (drop k numbers)) (lt : k < length numbers) (rest : List ℕ) (is : rest ≡ drop (k + 1) numbers) where
  again : (b : Bool) → b ≡ list_any (λ y. nat_eq y (get_or numbers k 0)) rest → is_in nat_eq (get_or numbers k 0) (drop (k + 1) numbers) ≡ b
  again b e = sym (any-is (get_or numbers k 0) (drop (k + 1) numbers)) ∙ ap (list_any (λ y. nat_eq y (get_or numbers k 0))) (sym is) ∙ sym e

  pub distinct-next : false ≡ list_any (λ y. nat_eq y (get_or numbers k 0)) rest → are_distinct numbers ≡ are_distinct (drop (k + 1) numbers)
  distinct-next e = h ∙ ap are_distinct (number-behind numbers k lt) ∙ ap (λ b. not b && are_distinct (drop (k + 1) numbers)) (again false e)

  pub distinct-bad : true ≡ list_any (λ y. nat_eq y (get_or numbers k 0)) rest → false ≡ are_distinct numbers
  distinct-bad e = sym (h ∙ ap are_distinct (number-behind numbers k lt) ∙ ap (λ b. not b && are_distinct (drop (k + 1) numbers)) (again true e))

pub last-place : (segments : List Segment) (s : Segment) → Some s ≡ slice_get segments (length segments - 1) → place_behind 0 segments ≡ s.high + 1
last-place segments s e = let lt = slice_get_within segments (length segments - 1) s (sym e) in place-last segments 0 (length segments - 1) s (omega (arith, lt)) (sym e)

pub distinct-end : (numbers : List ℕ) (k : ℕ) → are_distinct numbers ≡ are_distinct (drop k numbers) → length numbers ≤ k → true ≡ are_distinct numbers
distinct-end numbers k h le = sym (h ∙ ap are_distinct (none-behind numbers k le))

-- ---- names

all-more : {X : Type 0} (p : X → Bool) (xs : List X) (x : X) → list_all p (xs ++ x ∷ []) ≡ (list_all p xs && p x)
all-more p [] x = by_test (p x)
  where
    by_test : (b : Bool) → (b && true) ≡ b
    by_test true = refl
    by_test false = refl
all-more p (y ∷ xs) x = by_test (p y) (all-more p xs x)
  where
    by_test : (b : Bool) → list_all p (xs ++ x ∷ []) ≡ (list_all p xs && p x) → (b && list_all p (xs ++ x ∷ [])) ≡ ((b && list_all p xs) && p x)
    by_test true h = h
    by_test false h = refl

pub in-more : {X : Type 0} (same : X → X → Bool) (q : X) (xs : List X) (x : X) → is_in same q (xs ++ x ∷ []) ≡ (is_in same q xs || same q x)
in-more same q [] x = by_test (same q x)
  where
    by_test : (b : Bool) → (b || false) ≡ b
    by_test true = refl
    by_test false = refl
in-more same q (y ∷ xs) x = by_test (same q y) (in-more same q xs x)
  where
    by_test : (b : Bool) → is_in same q (xs ++ x ∷ []) ≡ (is_in same q xs || same q x) → (b || is_in same q (xs ++ x ∷ [])) ≡ ((b || is_in same q xs) || same q x)
    by_test true h = refl
    by_test false h = h

place-item : (ks : List KnownName) (i : ℕ) → i < length ks → (k : KnownName) × (slice_get ks i ≡ Some k)
place-item [] i lt = absurd (omega (arith, lt))
place-item (c ∷ ks) zero lt = (c, refl)
place-item (c ∷ ks) (suc i) lt = place-item ks i (omega (arith, lt))

same-or-more : (a b : ℕ) → a ≤ b → (a ≡ b) ⊎ (a < b)
same-or-more zero zero h = inl refl
same-or-more zero (suc b) h = inr (omega arith)
same-or-more (suc a) zero h = absurd (omega (arith, h))
same-or-more (suc a) (suc b) h = ⊎_elim (λ e. inl (ap suc e)) (λ lt. inr (omega (arith, lt))) (same-or-more a b (omega (arith, h)))

same-sym : (a b : Name) → same_name a b ≡ same_name b a
same-sym a b = by_test (same_name a b) (same_name b a) refl refl
  where
    by_test : (x y : Bool) → same_name a b ≡ x → same_name b a ≡ y → x ≡ y
    by_test true true e f = refl
    by_test false false e f = refl
    by_test true false e f = absurd (true≢false (sym (subst (λ z. same_name z a ≡ true) (same_name-exact a b e) (same_name-self a)) ∙ f))
    by_test false true e f = absurd (true≢false (sym (subst (λ z. same_name z b ≡ true) (same_name-exact b a f) (same_name-self b)) ∙ e))

and-false : (b : Bool) → (b && false) ≡ false
and-false true = refl
and-false false = refl

-- a name fits where its id is above those before, and its name isn't one of theirs
pub fits-is : (before : List KnownName) (k : KnownName) → name_fits before k ≡ (list_all (λ (b : KnownName). nat_lt b.id k.id) before && not (is_in same_name k.name (map (λ (b : KnownName). b.name) before)))
fits-is [] k = refl
fits-is (b ∷ before) k = ap (λ s. (nat_lt b.id k.id && not s) && name_fits before k) (same-sym b.name k.name) ∙ by_test (nat_lt b.id k.id) (same_name k.name b.name) (fits-is before k)
  where
    by_test : (p q : Bool) → name_fits before k ≡ (list_all (λ (b : KnownName). nat_lt b.id k.id) before && not (is_in same_name k.name (map (λ (b : KnownName). b.name) before)))
        → ((p && not q) && name_fits before k) ≡ ((p && list_all (λ (b : KnownName). nat_lt b.id k.id) before) && not (q || is_in same_name k.name (map (λ (b : KnownName). b.name) before)))
    by_test true false h = h
    by_test true true h = sym (and-false (list_all (λ (b : KnownName). nat_lt b.id k.id) before))
    by_test false q h = refl

-- the ids of names are below those from the next one on: where one more is among them
pub ids-more : (names : List KnownName) (next : ℕ) → ((q : ℕ) → list_all (λ (b : KnownName). nat_lt b.id q) names ≡ nat_le next q) → (k : KnownName) → next ≤ k.id
    → (q : ℕ) → list_all (λ (b : KnownName). nat_lt b.id q) (names ++ k ∷ []) ≡ nat_le (k.id + 1) q
ids-more names next h k le q = all-more (λ (b : KnownName). nat_lt b.id q) names k ∙ ap (λ b. b && nat_lt k.id q) (h q) ∙ by_test (nat_lt k.id q) refl
  where
    by_test : (b : Bool) → nat_lt k.id q ≡ b → (nat_le next q && b) ≡ nat_le (k.id + 1) q
    by_test true e = let lt = ltb-true k.id q e in ap (λ b. b && true) (le-leb next q (omega (arith, lt, le))) ∙ sym (le-leb (k.id + 1) q (omega (arith, lt)))
    by_test false e = and-false (nat_le next q) ∙ sym (false_from_ne_true (nat_le (k.id + 1) q) (λ t. let l = leb-true (k.id + 1) q t in true≢false (sym (lt-ltb k.id q (omega (arith, l))) ∙ e)))

module _ (names : List KnownName) (seen : BTreeSet Name) (next : ℕ) (h : HasSeen names seen next) (k : KnownName) (end : ℕ) where
  -- the test that it stands there, by what was seen
  pub seen-fits : (nat_lt k.id end && name_fits names k) ≡ (nat_lt k.id end && (nat_le next k.id && not (contains (slice_cmp nat_cmp) seen k.name)))
  seen-fits = ap (λ b. nat_lt k.id end && b) (fits-is names k ∙ ap (λ b. b && not (is_in same_name k.name (map (λ (b : KnownName). b.name) names))) (h.ids k.id) ∙ ap (λ b. nat_le next k.id && not b) (sym (h.names k.name)))

  pub seen-not : (end ≤ k.id) ⊎ (k.id < next) → false ≡ (nat_lt k.id end && name_fits names k)
  seen-not (inl le) = sym (ap (λ b. b && name_fits names k) (false_from_ne_true (nat_lt k.id end) (λ t. let lt = ltb-true k.id end t in omega (arith, lt, le))))
  seen-not (inr lt) = sym (seen-fits ∙ ap (λ b. nat_lt k.id end && (b && not (contains (slice_cmp nat_cmp) seen k.name))) (false_from_ne_true (nat_le next k.id) (λ t. let le = leb-true next k.id t in omega (arith, lt, le))) ∙ and-false (nat_lt k.id end))

  pub seen-new : k.id < end → next ≤ k.id → (new : Bool) → new ≡ not (contains (slice_cmp nat_cmp) seen k.name) → new ≡ (nat_lt k.id end && name_fits names k)
  seen-new lt le new e = e ∙ sym (seen-fits ∙ ap (λ b. b && (nat_le next k.id && not (contains (slice_cmp nat_cmp) seen k.name))) (lt-ltb k.id end lt) ∙ ap (λ b. b && not (contains (slice_cmp nat_cmp) seen k.name)) (le-leb next k.id le))

  pub seen-more : next ≤ k.id → (now : BTreeSet Name) → Updates (slice_cmp nat_cmp) seen now k.name true → HasSeen (names ++ k ∷ []) now (k.id + 1)
  seen-more le now u = record {
    names = λ q. u.0 q ∙ ap (λ b. cond b true (contains (slice_cmp nat_cmp) seen q)) (sym (texts_ties k.name q)) ∙ ap (λ b. cond (same_name k.name q) true b) (h.names q) ∙ ap (λ b. cond b true (is_in same_name q (map (λ (b : KnownName). b.name) names))) (same-sym k.name q)
        ∙ either (same_name q k.name) (is_in same_name q (map (λ (b : KnownName). b.name) names)) ∙ sym (in-more same_name q (map (λ (b : KnownName). b.name) names) k.name) ∙ ap (is_in same_name q) (sym (map-append (λ (b : KnownName). b.name) names (k ∷ [])));
    ids = ids-more names next h.ids k le;
  }
    where
      either : (a b : Bool) → cond a true b ≡ (b || a)
      either true true = refl
      either true false = refl
      either false true = refl
      either false false = refl

module _ (names : List KnownName) (end first k : ℕ) (known : KnownName) (h : first_false first (names_fit end [] names) ≡ first_false (first + k) (names_fit end (take k names) (drop k names)))
    (lt : k < length names) (is : known ≡ get_or names k known) where
  at-name : first_false first (names_fit end [] names) ≡ first_false (first + k) ((nat_lt known.id end && name_fits (take k names) known) ∷ names_fit end (take k names ++ known ∷ []) (drop (k + 1) names))
  at-name = h ∙ ap (λ l. first_false (first + k) (names_fit end (take k names) l)) (behind names k known lt is)

  pub name-next : true ≡ (nat_lt known.id end && name_fits (take k names) known) → first_false first (names_fit end [] names) ≡ first_false (first + (k + 1)) (names_fit end (take (k + 1) names) (drop (k + 1) names))
  name-next e =
      let sums : first + k + 1 ≡ first + (k + 1) = omega arith in
      at-name ∙ passes (first + k) (nat_lt known.id end && name_fits (take k names) known) (names_fit end (take k names ++ known ∷ []) (drop (k + 1) names)) (sym e)
      ∙ ap (λ l. first_false (first + k + 1) (names_fit end l (drop (k + 1) names))) (sym (before names k known lt is)) ∙ ap (λ n. first_false n (names_fit end (take (k + 1) names) (drop (k + 1) names))) sums

  pub name-bad : false ≡ (nat_lt known.id end && name_fits (take k names) known) → Some (first + k) ≡ first_false first (names_fit end [] names)
  name-bad e = sym (at-name ∙ fails (first + k) (nat_lt known.id end && name_fits (take k names) known) (names_fit end (take k names ++ known ∷ []) (drop (k + 1) names)) (sym e))

pub names-end : (names : List KnownName) (end first k : ℕ) → first_false first (names_fit end [] names) ≡ first_false (first + k) (names_fit end (take k names) (drop k names)) → length names ≤ k
    → None ≡ first_false first (names_fit end [] names)
names-end names end first k h le = sym (h ∙ ap (λ l. first_false (first + k) (names_fit end (take k names) l)) (none-behind names k le))

-- names that fit have ids that ascend
ascends : (n end : ℕ) (names ks : List KnownName) (from : ℕ) → ((q : ℕ) → list_all (λ (b : KnownName). nat_lt b.id q) names ≡ true → from ≤ q) → first_false n (names_fit end names ks) ≡ None → AscendFrom from ks
ascends n end names [] from least h = tt
ascends n end names (k ∷ ks) from least h = by_test (nat_lt k.id end && name_fits names k) refl h
    (λ g. ascends (n + 1) end (names ++ k ∷ []) ks (k.id + 1) (λ q e. let lt = ltb-true k.id q (and_true (list_all (λ (b : KnownName). nat_lt b.id q) names) (nat_lt k.id q) (sym (all-more (λ (b : KnownName). nat_lt b.id q) names k) ∙ e)).1 in omega (arith, lt)) g)
  where
    by_test : (b : Bool) → (nat_lt k.id end && name_fits names k) ≡ b → (if b then first_false (n + 1) (names_fit end (names ++ k ∷ []) ks) else Some n) ≡ None
        → (first_false (n + 1) (names_fit end (names ++ k ∷ []) ks) ≡ None → AscendFrom (k.id + 1) ks) → AscendFrom from (k ∷ ks)
    by_test true e g rec =
        let fits = (and_true (nat_lt k.id end) (name_fits names k) e).1 in
        (least k.id (and_true (list_all (λ (b : KnownName). nat_lt b.id k.id) names) _ (sym (fits-is names k) ∙ fits)).0, rec g)
    by_test false e g rec = absurd (true≢false (ap is_some g))

pub names-ascend : (n end : ℕ) (names : List KnownName) → None ≡ first_false n (names_fit end [] names) → AscendFrom 0 names
names-ascend n end names h = ascends n end [] names 0 (λ q e. omega arith) (sym h)

first-none : (a b : Option ℕ) → first_some a b ≡ None → (a ≡ None) × (b ≡ None)
first-none None b e = (refl, e)
first-none (Some n) b e = absurd (true≢false (ap is_some e))

-- the names of clone data that break no rule ascend
pub ascend-unbroken : (told : CloneData) → first_broken told ≡ None → AscendFrom 0 told.names
ascend-unbroken told e =
    let a = first-none (first_false 0 (segments_fit 0 told.segments)) _ e in
    let b = first-none (first_false (length told.segments) (names_fit (place_behind 0 told.segments) [] told.names)) _ a.1 in
    names-ascend (length told.segments) (place_behind 0 told.segments) told.names (sym b.0)

-- ---- the name of an id

least-id : (from : ℕ) (ks : List KnownName) → AscendFrom from ks → (i : ℕ) (k : KnownName) → slice_get ks i ≡ Some k → from ≤ k.id
least-id from [] h i k e = cc
least-id from (c ∷ ks) h zero k e = let is : c ≡ k = cc in subst (λ (z : KnownName). from ≤ z.id) is h.0
least-id from (c ∷ ks) h (suc i) k e = let a = least-id (c.id + 1) ks h.1 i k e in let b = h.0 in omega (arith, a, b)

in-order : (from : ℕ) (ks : List KnownName) → AscendFrom from ks → (i j : ℕ) (a b : KnownName) → slice_get ks i ≡ Some a → slice_get ks j ≡ Some b → i < j → a.id < b.id
in-order from [] h i j a b e f lt = cc
in-order from (c ∷ ks) h i zero a b e f lt = absurd (omega (arith, lt))
in-order from (c ∷ ks) h zero (suc j) a b e f lt = let is : c ≡ a = cc in let le = least-id (c.id + 1) ks h.1 j b f in subst (λ (z : KnownName). z.id < b.id) is (omega (arith, le))
in-order from (c ∷ ks) h (suc i) (suc j) a b e f lt = in-order (c.id + 1) ks h.1 i j a b e f (omega (arith, lt))

none-named : (ks : List KnownName) (id : ℕ) → ((i : ℕ) (k : KnownName) → slice_get ks i ≡ Some k → k.id ≡ id → ⊥) → names_at ks id ≡ []
none-named [] id h = refl
none-named (c ∷ ks) id h = by_test (nat_eq c.id id) refl (none-named ks id (λ i k e. h (suc i) k e))
  where
    by_test : (b : Bool) → nat_eq c.id id ≡ b → names_at ks id ≡ [] → map (λ (k : KnownName). k.name) (cond b (c ∷ filter (λ (k : KnownName). nat_eq k.id id) ks) (filter (λ (k : KnownName). nat_eq k.id id) ks)) ≡ []
    by_test true e g = absurd (h 0 c refl (exact_unsigned_eq c.id id e))
    by_test false e g = g

pub one-named : (from : ℕ) (ks : List KnownName) → AscendFrom from ks → (i : ℕ) (k : KnownName) → slice_get ks i ≡ Some k → names_at ks k.id ≡ k.name ∷ []
one-named from [] h i k e = cc
one-named from (c ∷ ks) h zero k e =
    let is : c ≡ k = cc in
    subst (λ (z : KnownName). names_at (c ∷ ks) z.id ≡ z.name ∷ []) is
    (ap (λ b. map (λ (k : KnownName). k.name) (cond b (c ∷ filter (λ (k : KnownName). nat_eq k.id c.id) ks) (filter (λ (k : KnownName). nat_eq k.id c.id) ks))) (eq-eqb c.id c.id refl)
    ∙ ap (λ l. c.name ∷ l) (none-named ks c.id (λ j b f same. let le = least-id (c.id + 1) ks h.1 j b f in omega (arith, le, same))))
one-named from (c ∷ ks) h (suc i) k e =
    ap (λ b. map (λ (z : KnownName). z.name) (cond b (c ∷ filter (λ (z : KnownName). nat_eq z.id k.id) ks) (filter (λ (z : KnownName). nat_eq z.id k.id) ks)))
    (false_from_ne_true (nat_eq c.id k.id) (λ t. let le = least-id (c.id + 1) ks h.1 i k e in let same = exact_unsigned_eq c.id k.id t in omega (arith, le, same)))
    ∙ one-named (c.id + 1) ks h.1 i k e

-- no id up to a place is it, and from there on they are above it
pub not-named : (from : ℕ) (ks : List KnownName) → AscendFrom from ks → (id place : ℕ) → ((i : ℕ) (k : KnownName) → i < place → slice_get ks i ≡ Some k → k.id < id)
    → ((k : KnownName) → slice_get ks place ≡ Some k → id < k.id) → names_at ks id ≡ []
not-named from ks h id place low high = none-named ks id (λ i k e same. by_order i k e same (le_or_lt place i))
  where
    by_place : (i : ℕ) (k : KnownName) → slice_get ks i ≡ Some k → k.id ≡ id → (place ≡ i) ⊎ (place < i) → ⊥
    by_place i k e same (inl at) = let lt = high k (ap (slice_get ks) at ∙ e) in omega (arith, lt, same)
    by_place i k e same (inr lt) =
        let k_lt = slice_get_within ks i k e in
        let p = place-item ks place (omega (arith, lt, k_lt)) in
        let a = high p.0 p.1 in let b = in-order from ks h place i p.0 k p.1 e lt in omega (arith, a, b, same)

    by_order : (i : ℕ) (k : KnownName) → slice_get ks i ≡ Some k → k.id ≡ id → (place ≤ i) ⊎ (i < place) → ⊥
    by_order i k e same (inl le) = by_place i k e same (same-or-more place i le)
    by_order i k e same (inr lt) = let a = low i k lt e in omega (arith, a, same)

at-or : {X : Type 0} (xs : List X) (i : ℕ) (d : X) → i < length xs → slice_get xs i ≡ Some (get_or xs i d)
at-or [] i d lt = absurd (omega (arith, lt))
at-or (x ∷ xs) zero d lt = refl
at-or (x ∷ xs) (suc i) d lt = at-or xs i d (omega (arith, lt))

pub named-found : (names : List KnownName) → AscendFrom 0 names → (place : ℕ) (k : KnownName) → place < length names → k ≡ get_or names place k → (id : ℕ) (name : Name) → id ≡ k.id → name ≡ k.name → names_at names id ≡ name ∷ []
named-found names h place k lt is id name same called =
    ap (names_at names) same ∙ one-named 0 names h place k (slice_get_read names (length names) place k refl lt is) ∙ ap (λ x. x ∷ []) (sym called)

pub parted : (names : List KnownName) → AscendFrom 0 names → (id : ℕ) → IsPartitionedBy (λ (k : KnownName). nat_lt k.id id) names
parted names h id i j d le lt t = by_order (same-or-more i j le)
  where
    by_order : (i ≡ j) ⊎ (i < j) → nat_lt (get_or names i d).id id ≡ true
    by_order (inl e) = subst (λ n. nat_lt (get_or names n d).id id ≡ true) (sym e) t
    by_order (inr less) =
        let low = in-order 0 names h i j (get_or names i d) (get_or names j d) (at-or names i d (omega (arith, less, lt))) (at-or names j d lt) less in
        let up = ltb-true (get_or names j d).id id t in
        lt-ltb (get_or names i d).id id (omega (arith, low, up))

pub named-nowhere : (names : List KnownName) → AscendFrom 0 names → (id place : ℕ) → IsPartitionPoint (λ (k : KnownName). nat_lt k.id id ≡ true) (λ (k : KnownName). nat_lt k.id id ≡ false) names place
    → ((k : KnownName) → slice_get names place ≡ Some k → k.id ≡ id → ⊥) → names_at names id ≡ []
named-nowhere names h id place point apart = not-named 0 names h id place
    (λ i k lt e. ltb-true k.id id (subst (λ (z : KnownName). nat_lt z.id id ≡ true) (read i k e) (point.0 i k (omega arith) lt)))
    (λ k e.
    let within = slice_get_within names place k e in
    let not_less = subst (λ (z : KnownName). nat_lt z.id id ≡ false) (read place k e) (point.1 place k (omega arith) within) in
    ⊎_elim
    (λ le. ⊎_elim (λ same. absurd (apart k e (sym same))) (λ lt. lt) (same-or-more id k.id le))
    (λ lt. absurd (true≢false (sym (lt-ltb k.id id lt) ∙ not_less)))
    (le_or_lt id k.id))
  where
    read : (i : ℕ) (k : KnownName) → slice_get names i ≡ Some k → get_or names i k ≡ k
    read i k e = let f : Some (get_or names i k) ≡ Some k = sym (at-or names i k (slice_get_within names i k e)) ∙ e in cc

pub no-place : (names : List KnownName) (place : ℕ) (k : KnownName) → length names ≤ place → slice_get names place ≡ Some k → ⊥
no-place names place k le e = let lt = slice_get_within names place k e in omega (arith, lt, le)

pub other-place : (names : List KnownName) (place : ℕ) (k : KnownName) → place < length names → k ≡ get_or names place k → (id n : ℕ) → n ≡ k.id → n ≢ id → (c : KnownName) → slice_get names place ≡ Some c → c.id ≡ id → ⊥
other-place names place k lt is id n same apart c e f = let g : Some k ≡ Some c = sym (slice_get_read names (length names) place k refl lt is) ∙ e in let one : k ≡ c = cc in apart (same ∙ ap (λ (z : KnownName). z.id) one ∙ f)

abbrev some-named : List Name → Bool
some-named [] = false
some-named (x ∷ xs) = true

named-any : (ks : List KnownName) (id : ℕ) → is_in nat_eq id (map (λ (k : KnownName). k.id) ks) ≡ some-named (names_at ks id)
named-any [] id = refl
named-any (c ∷ ks) id = ap (λ b. b || is_in nat_eq id (map (λ (k : KnownName). k.id) ks)) (lt-sym id c.id) ∙ by_test (nat_eq c.id id) (named-any ks id)
  where
    by_test : (b : Bool) → is_in nat_eq id (map (λ (k : KnownName). k.id) ks) ≡ some-named (names_at ks id)
        → (b || is_in nat_eq id (map (λ (k : KnownName). k.id) ks)) ≡ some-named (map (λ (k : KnownName). k.name) (cond b (c ∷ filter (λ (k : KnownName). nat_eq k.id id) ks) (filter (λ (k : KnownName). nat_eq k.id id) ks)))
    by_test true g = refl
    by_test false g = g

pub named-is : (ks : List KnownName) (id : ℕ) (found : Option Name) → names_at ks id ≡ option_to_list found → is_some found ≡ is_in nat_eq id (map (λ (k : KnownName). k.id) ks)
named-is ks id None e = sym (named-any ks id ∙ ap some-named e)
named-is ks id (Some x) e = sym (named-any ks id ∙ ap some-named e)

-- ---- tests of all items

pub all-next : {X : Type 0} (p : X → Bool) (xs : List X) (k : ℕ) (x : X) → list_all p xs ≡ list_all p (drop k xs) → k < length xs → x ≡ get_or xs k x → true ≡ p x → list_all p xs ≡ list_all p (drop (k + 1) xs)
all-next p xs k x h lt is e = h ∙ ap (list_all p) (behind xs k x lt is) ∙ ap (λ b. b && list_all p (drop (k + 1) xs)) (sym e)

pub all-bad : {X : Type 0} (p : X → Bool) (xs : List X) (k : ℕ) (x : X) → list_all p xs ≡ list_all p (drop k xs) → k < length xs → x ≡ get_or xs k x → false ≡ p x → false ≡ list_all p xs
all-bad p xs k x h lt is e = sym (h ∙ ap (list_all p) (behind xs k x lt is) ∙ ap (λ b. b && list_all p (drop (k + 1) xs)) (sym e))

pub all-end : {X : Type 0} (p : X → Bool) (xs : List X) (k : ℕ) → list_all p xs ≡ list_all p (drop k xs) → length xs ≤ k → true ≡ list_all p xs
all-end p xs k h le = sym (h ∙ ap (list_all p) (none-behind xs k le))

-- the same over numbers
pub numbers-next : (p : ℕ → Bool) (xs : List ℕ) (k : ℕ) → list_all p xs ≡ list_all p (drop k xs) → k < length xs → true ≡ p (get_or xs k 0) → list_all p xs ≡ list_all p (drop (k + 1) xs)
numbers-next p xs k h lt e = h ∙ ap (list_all p) (number-behind xs k lt) ∙ ap (λ b. b && list_all p (drop (k + 1) xs)) (sym e)

pub numbers-bad : (p : ℕ → Bool) (xs : List ℕ) (k : ℕ) → list_all p xs ≡ list_all p (drop k xs) → k < length xs → false ≡ p (get_or xs k 0) → false ≡ list_all p xs
numbers-bad p xs k h lt e = sym (h ∙ ap (list_all p) (number-behind xs k lt) ∙ ap (λ b. b && list_all p (drop (k + 1) xs)) (sym e))

pub few-merge : (parents : List ℕ) → length parents < 2 → merge_parents parents ≡ []
few-merge [] h = refl
few-merge (p ∷ []) h = refl
few-merge (p ∷ q ∷ more) h = absurd (omega (arith, h))

pub many-merge : (parents : List ℕ) → 2 ≤ length parents → merge_parents parents ≡ parents
many-merge [] h = absurd (omega (arith, h))
many-merge (p ∷ []) h = absurd (omega (arith, h))
many-merge (p ∷ q ∷ more) h = refl

-- ---- heads

in-append : (q : ℕ) (xs ys : List ℕ) → is_in nat_eq q (xs ++ ys) ≡ (is_in nat_eq q xs || is_in nat_eq q ys)
in-append q [] ys = refl
in-append q (x ∷ xs) ys = by_test (nat_eq q x) (in-append q xs ys)
  where
    by_test : (b : Bool) → is_in nat_eq q (xs ++ ys) ≡ (is_in nat_eq q xs || is_in nat_eq q ys) → (b || is_in nat_eq q (xs ++ ys)) ≡ ((b || is_in nat_eq q xs) || is_in nat_eq q ys)
    by_test true g = refl
    by_test false g = g

flat-more : {X : Type 0} (f : X → List ℕ) (xs : List X) (x : X) → flat_map f (xs ++ x ∷ []) ≡ flat_map f xs ++ f x
flat-more f [] x = append-nil (f x)
flat-more f (y ∷ xs) x = ap (λ l. f y ++ l) (flat-more f xs x) ∙ sym (append_assoc (f y) (flat_map f xs) (f x))

pub parents-more : (segments : List Segment) (k : ℕ) (s : Segment) → k < length segments → s ≡ get_or segments k s → (set now : ℕ → Bool)
    → ((q : ℕ) → set q ≡ is_in nat_eq q (flat_map (λ (s : Segment). s.parents) (take k segments)))
    → ((q : ℕ) → now q ≡ (set q || is_in nat_eq q s.parents))
    → (q : ℕ) → now q ≡ is_in nat_eq q (flat_map (λ (s : Segment). s.parents) (take (k + 1) segments))
parents-more segments k s lt is set now h g q =
    g q ∙ ap (λ b. b || is_in nat_eq q s.parents) (h q) ∙ sym (in-append q (flat_map (λ (s : Segment). s.parents) (take k segments)) s.parents)
    ∙ ap (is_in nat_eq q) (sym (flat-more (λ (s : Segment). s.parents) (take k segments) s)) ∙ ap (λ l. is_in nat_eq q (flat_map (λ (s : Segment). s.parents) l)) (sym (before segments k s lt is))

pub number-more : (numbers : List ℕ) (k : ℕ) → k < length numbers → (old set now : ℕ → Bool)
    → ((q : ℕ) → set q ≡ (old q || is_in nat_eq q (take k numbers))) → ((q : ℕ) → now q ≡ (set q || nat_eq q (get_or numbers k 0)))
    → (q : ℕ) → now q ≡ (old q || is_in nat_eq q (take (k + 1) numbers))
number-more numbers k lt old set now h g q =
    let n = get_or numbers k 0 in
    g q ∙ ap (λ b. b || nat_eq q n) (h q) ∙ turned (old q) (is_in nat_eq q (take k numbers)) (nat_eq q n)
    ∙ ap (λ b. old q || b) (sym (in-more nat_eq q (take k numbers) n) ∙ ap (is_in nat_eq q) (sym (number-before numbers k lt)))
  where
    turned : (a b c : Bool) → ((a || b) || c) ≡ (a || (b || c))
    turned true b c = refl
    turned false b c = refl

filter-more : (f : ℕ → Bool) (xs : List ℕ) (x : ℕ) → filter f (xs ++ x ∷ []) ≡ filter f xs ++ cond (f x) (x ∷ []) []
filter-more f [] x = refl
filter-more f (y ∷ xs) x = by_test (f y) (filter-more f xs x)
  where
    by_test : (b : Bool) → filter f (xs ++ x ∷ []) ≡ filter f xs ++ cond (f x) (x ∷ []) [] → cond b (y ∷ filter f (xs ++ x ∷ [])) (filter f (xs ++ x ∷ [])) ≡ cond b (y ∷ filter f xs) (filter f xs) ++ cond (f x) (x ∷ []) []
    by_test true g = ap (λ l. y ∷ l) g
    by_test false g = g

pub heads-more : (f : ℕ → Bool) (segments : List Segment) (k : ℕ) (s : Segment) → k < length segments → s ≡ get_or segments k s → (ids now : List ℕ)
    → ids ≡ filter f (map (λ (s : Segment). s.high) (take k segments)) → now ≡ ids ++ cond (f s.high) (s.high ∷ []) []
    → now ≡ filter f (map (λ (s : Segment). s.high) (take (k + 1) segments))
heads-more f segments k s lt is ids now h e =
    e ∙ ap (λ l. l ++ cond (f s.high) (s.high ∷ []) []) h ∙ sym (filter-more f (map (λ (s : Segment). s.high) (take k segments)) s.high)
    ∙ ap (filter f) (sym (map-append (λ (s : Segment). s.high) (take k segments) (s ∷ []))) ∙ ap (λ l. filter f (map (λ (s : Segment). s.high) l)) (sym (before segments k s lt is))

pub head-kept : (is_parent : Bool) (id : ℕ) → (if is_parent then [] else id ∷ []) ≡ cond (not is_parent) (id ∷ []) []
head-kept true id = refl
head-kept false id = refl

next-of : (ids : List ℕ) (k : ℕ) → MatchOption (slice_get ids k) (drop k ids ≡ []) (λ id. drop k ids ≡ id ∷ drop (suc k) ids)
next-of [] zero = refl
next-of [] (suc k) = refl
next-of (x ∷ ids) zero = refl
next-of (x ∷ ids) (suc k) = next-of ids k

next-at : (ids : List ℕ) (k : ℕ) → MatchOption (slice_get ids k) (drop k ids ≡ []) (λ id. drop k ids ≡ id ∷ drop (k + 1) ids)
next-at ids k = let one : suc k ≡ k + 1 = omega arith in subst (λ n. MatchOption (slice_get ids k) (drop k ids ≡ []) (λ id. drop k ids ≡ id ∷ drop n ids)) one (next-of ids k)

module _ (names : List KnownName) (ids : List ℕ) (heads : List Name) (first k : ℕ) (head : Name)
    (h : first_false first (heads_fit names ids heads) ≡ first_false (first + k) (heads_fit names (drop k ids) (drop k heads))) (lt : k < length heads) (is : head ≡ get_or heads k head) where
  at-head : (left : List ℕ) → drop k ids ≡ left → first_false first (heads_fit names ids heads) ≡ first_false (first + k) (heads_fit names left (head ∷ drop (k + 1) heads))
  at-head left e = h ∙ ap (λ l. first_false (first + k) (heads_fit names l (drop k heads))) e ∙ ap (λ l. first_false (first + k) (heads_fit names left l)) (behind heads k head lt is)

  pub head-next : MatchOption (slice_get ids k) (true ≡ false) (λ id. true ≡ is_in same_name head (names_at names id))
      → first_false first (heads_fit names ids heads) ≡ first_false (first + (k + 1)) (heads_fit names (drop (k + 1) ids) (drop (k + 1) heads))
  head-next t = by_id (slice_get ids k) t (next-at ids k)
    where
      by_id : (o : Option ℕ) → MatchOption o (true ≡ false) (λ id. true ≡ is_in same_name head (names_at names id)) → MatchOption o (drop k ids ≡ []) (λ id. drop k ids ≡ id ∷ drop (k + 1) ids)
          → first_false first (heads_fit names ids heads) ≡ first_false (first + (k + 1)) (heads_fit names (drop (k + 1) ids) (drop (k + 1) heads))
      by_id None t e = absurd (true≢false t)
      by_id (Some id) t e =
          let sums : first + k + 1 ≡ first + (k + 1) = omega arith in
          at-head (id ∷ drop (k + 1) ids) e ∙ passes (first + k) (is_in same_name head (names_at names id)) (heads_fit names (drop (k + 1) ids) (drop (k + 1) heads)) (sym t)
          ∙ ap (λ n. first_false n (heads_fit names (drop (k + 1) ids) (drop (k + 1) heads))) sums

  pub head-bad : MatchOption (slice_get ids k) (false ≡ false) (λ id. false ≡ is_in same_name head (names_at names id)) → Some (first + k) ≡ first_false first (heads_fit names ids heads)
  head-bad t = by_id (slice_get ids k) t (next-at ids k)
    where
      by_id : (o : Option ℕ) → MatchOption o (false ≡ false) (λ id. false ≡ is_in same_name head (names_at names id)) → MatchOption o (drop k ids ≡ []) (λ id. drop k ids ≡ id ∷ drop (k + 1) ids)
          → Some (first + k) ≡ first_false first (heads_fit names ids heads)
      by_id None t e = sym (at-head [] e)
      by_id (Some id) t e = sym (at-head (id ∷ drop (k + 1) ids) e ∙ fails (first + k) (is_in same_name head (names_at names id)) (heads_fit names (drop (k + 1) ids) (drop (k + 1) heads)) (sym t))

pub heads-end : (names : List KnownName) (ids : List ℕ) (heads : List Name) (first k : ℕ) → first_false first (heads_fit names ids heads) ≡ first_false (first + k) (heads_fit names (drop k ids) (drop k heads))
    → length heads ≤ k → None ≡ first_false first (heads_fit names ids heads)
heads-end names ids heads first k h le = sym (h ∙ ap (λ l. first_false (first + k) (heads_fit names (drop k ids) l)) (none-behind heads k le) ∙ by_ids (drop k ids))
  where
    by_ids : (left : List ℕ) → first_false (first + k) (heads_fit names left []) ≡ None
    by_ids [] = refl
    by_ids (id ∷ left) = refl

-- ---- the first of all

pub first-is : (a b : Option ℕ) (k : ℕ) → Some k ≡ a → Some k ≡ first_some a b
first-is a b k e = ap (λ o. first_some o b) e

pub then-is : (a b r : Option ℕ) → None ≡ a → r ≡ b → r ≡ first_some a b
then-is a b r e f = f ∙ ap (λ o. first_some o b) e
