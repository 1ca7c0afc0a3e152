-- The payload of a clone is in the grammar, and stands for the remote's master.
use Rattle.std.proofs.Common.{◌≡◌, ◌≤◌, ◌<◌, ◌+◌, ◌^◌, ◌&&◌, ◌||◌, not, cond, ℕ, zero, suc, Bool, true, false, inl, inr, List, [], ◌∷◌, ◌++◌, length, map, filter, flat_map, nat_eq, nat_lt, nat_le, Option, Some, None, slice_get, is_some, refl, sym, ap, ap₂, subst, ◌∙◌, ⊎_elim, true≢false, arith, append-nil, le_refl, zero-le, eq-or-lt_of_le, lit≤}
use Rattle.std.specs.List.{AllByRecursion, range_with_len, cons_option}
use Rattle.std.specs.List.Sorted.{IsStrictlyIncreasing}
use Rattle.std.specs.Option.{option_map}
use Rattle.std.proofs.lemmas.Bool.{lt-ltb, le-leb, eq-eqb, eqb-false}
use Rattle.std.proofs.lemmas.Map.Views.{exact_unsigned_eq}
use Rattle.id_groups.specs.Lists.{IsIn, is_in, AreAllIn, AreDistinct}
use Rattle.id_groups.specs.Name.{Name, IsName, same_name}
use Rattle.id_groups.proofs.Listing.{and_true, both_true, or_left, or_right}
use Rattle.commit_graph.specs.World.{Row, World, IsNamedWorld, empty_world, rows_of, names_of}
use Rattle.commit_graph.specs.Ids.{parent_ids}
use Rattle.commit_graph.proofs.Naming.{each, all-each, name-of}
use Rattle.commit_graph.proofs.Down.{in-left, in-right}
use Rattle.segment_codec.specs.Record.{Segment}
use Rattle.segment_codec.specs.Table.{Follow}
use Rattle.segment_rules.specs.Flat.{flat_segments_of, parents_listed}
use Rattle.segment_rules.specs.NewLevels.{new_levels}
use Rattle.segment_levels.proofs.Coming.{new-all}
use Rattle.segment_rules.proofs.Flats.{flat-keeps}
use Rattle.batch_codec.specs.Payload.{Known, known_ids, known_names}
use Rattle.batch_codec.specs.Reading.{ids_ascend}
use Rattle.batch_codec.specs.Grammar.{AscendByLevel, IsOfLevel, IsPayload, head_names}
use Rattle.change_rules.specs.Lawful.{MayFollow}
use Rattle.batch_codec.specs.Grammar as grammar
use Rattle.batch_codec.proofs.Ascending.{ascend-increasing}
use Rattle.remote_rules.specs.CloneData as clones
use Rattle.remote_rules.specs.CloneData.{KnownName}
use Rattle.remote_rules.specs.Known.{master_alone}
use Rattle.remote_rules.specs.Honest.{named_ids, stored_ids, heads_of, master_segments}
use Rattle.change_rules.specs.Change.{flush_change, clone_change}
use Rattle.change_rules.specs.Tables.{StandFor}
use Rattle.change_rules.specs.Holding.{HoldPayloads}
use Rattle.change_rules.proofs.Lawful.{change-follows, history-distinct}
use Rattle.change_rules.proofs.Alone.{IsPlain, segments-cover, segments-plain}

-- ids that rise from least on, below end
abbrev pub Rises : ℕ → ℕ → List ℕ → Type 0
Rises least end [] = Unit {0}
Rises least end (id ∷ ids) = (least ≤ id) × (id < end) × Rises (id + 1) end ids

pub rises-lower : (low least end : ℕ) (ids : List ℕ) → low ≤ least → Rises least end ids → Rises low end ids
rises-lower low least end [] le h = tt
rises-lower low least end (id ∷ ids) le h = ((let a = h.0 in omega (arith, a, le)), h.1, h.2)

rises-range : (f : ℕ → Bool) (a k end : ℕ) → a + k ≤ end → Rises a end (filter f (range_with_len a k))
rises-range f a zero end le = tt
rises-range f a (suc k) end le = by_test (f a) (rises-range f (a + 1) k end (omega (arith, le)))
  where
    by_test : (b : Bool) → Rises (a + 1) end (filter f (range_with_len (a + 1) k)) → Rises a end (cond b (a ∷ filter f (range_with_len (a + 1) k)) (filter f (range_with_len (a + 1) k)))
    by_test true r = (le_refl a, omega (arith, le), r)
    by_test false r = rises-lower a (a + 1) end (filter f (range_with_len (a + 1) k)) (omega arith) r

pub rises-in : (least end : ℕ) (ids : List ℕ) → Rises least end ids → (x : ℕ) → IsIn x ids → (least ≤ x) × (x < end)
rises-in least end [] h x i = absurd i
rises-in least end (id ∷ ids) h x (inl e) = ((let a = h.0 in omega (arith, e, a)), (let a = h.1 in omega (arith, e, a)))
rises-in least end (id ∷ ids) h x (inr i) = let r = rises-in (id + 1) end ids h.2 x i in ((let a = h.0 in let b = r.0 in omega (arith, a, b)), r.1)

pub rises-ascend : (least end : ℕ) (ids : List ℕ) → Rises least end ids → ids_ascend least end ids ≡ true
rises-ascend least end [] h = refl
rises-ascend least end (id ∷ ids) h = both_true _ _ (both_true (nat_le least id) (nat_lt id end) (le-leb least id h.0) (lt-ltb id end h.1)) (rises-ascend (id + 1) end ids h.2)

pub in-range : (a n id : ℕ) → a ≤ id → id < a + n → IsIn id (range_with_len a n)
in-range a zero id low high = absurd (omega (arith, low, high))
in-range a (suc n) id low high = ⊎_elim (λ e. inl (sym e)) (λ lt. inr (in-range (a + 1) n id (omega (arith, lt)) (omega (arith, high)))) (eq-or-lt_of_le low)

pub in-filter : {X : Type 0} (f : X → Bool) (x : X) (xs : List X) → IsIn x xs → f x ≡ true → IsIn x (filter f xs)
in-filter f x [] i e = absurd i
in-filter f x (y ∷ xs) (inl g) e = subst (λ b. IsIn x (cond b (y ∷ filter f xs) (filter f xs))) (sym (ap f (sym g) ∙ e)) (inl g)
in-filter f x (y ∷ xs) (inr i) e = by_test (f y) (in-filter f x xs i e)
  where
    by_test : (b : Bool) → IsIn x (filter f xs) → IsIn x (cond b (y ∷ filter f xs) (filter f xs))
    by_test true j = inr j
    by_test false j = j

pub filter-back : {X : Type 0} (f : X → Bool) (x : X) (xs : List X) → IsIn x (filter f xs) → IsIn x xs
filter-back f x [] i = i
filter-back f x (y ∷ xs) i = by_test (f y) i (filter-back f x xs)
  where
    by_test : (b : Bool) → IsIn x (cond b (y ∷ filter f xs) (filter f xs)) → (IsIn x (filter f xs) → IsIn x xs) → IsIn x (y ∷ xs)
    by_test true (inl e) rec = inl e
    by_test true (inr j) rec = inr (rec j)
    by_test false j rec = inr (rec j)

pub is-there : (x : ℕ) (xs : List ℕ) → IsIn x xs → is_in nat_eq x xs ≡ true
is-there x [] i = absurd i
is-there x (y ∷ xs) (inl e) = or_left (nat_eq x y) _ (subst (λ z. nat_eq x z ≡ true) e (eq-eqb x x refl))
is-there x (y ∷ xs) (inr i) = or_right (nat_eq x y) _ (is-there x xs i)

-- filters of filters, and of ranges
filter-twice : (f g : ℕ → Bool) (xs : List ℕ) → ((x : ℕ) → f x ≡ true → g x ≡ true) → filter f (filter g xs) ≡ filter f xs
filter-twice f g [] h = refl
filter-twice f g (x ∷ xs) h = by_test (g x) (f x) refl refl (filter-twice f g xs h)
  where
    by_test : (b c : Bool) → g x ≡ b → f x ≡ c → filter f (filter g xs) ≡ filter f xs → filter f (cond b (x ∷ filter g xs) (filter g xs)) ≡ cond (f x) (x ∷ filter f xs) (filter f xs)
    by_test true c e d rec = ap (λ l. cond (f x) (x ∷ l) l) rec
    by_test false true e d rec = absurd (true≢false (sym (h x d) ∙ e))
    by_test false false e d rec = rec ∙ ap (λ b. cond b (x ∷ filter f xs) (filter f xs)) (sym d)

filter-range-same : (f g : ℕ → Bool) (a k : ℕ) → ((x : ℕ) → a ≤ x → f x ≡ g x) → filter f (range_with_len a k) ≡ filter g (range_with_len a k)
filter-range-same f g a zero h = refl
filter-range-same f g a (suc k) h = ap₂ (λ b l. cond b (a ∷ l) l) (h a (le_refl a)) (filter-range-same f g (a + 1) k (λ x le. h x (omega (arith, le))))

eq-not : (a b : ℕ) → (a ≡ b → ⊥) → nat_eq a b ≡ false
eq-not a b f = by_test (nat_eq a b) refl
  where
    by_test : (c : Bool) → nat_eq a b ≡ c → c ≡ false
    by_test true e = absurd (f (exact_unsigned_eq a b e))
    by_test false e = refl

pub not-there : (x least end : ℕ) (xs : List ℕ) → x < least → Rises least end xs → is_in nat_eq x xs ≡ false
not-there x least end [] lt h = refl
not-there x least end (y ∷ xs) lt h = ap₂ (λ a b. a || b) (eq-not x y (λ e. let a = h.0 in omega (arith, e, a, lt))) (not-there x (y + 1) end xs (let a = h.0 in omega (arith, a, lt)) h.2)

-- the numbers of a range that stand in a rising list are that list
chosen-range : (np : ℕ → Bool) (a k : ℕ) (hs : List ℕ) → Rises a (a + k) hs → filter (λ x. is_in nat_eq x hs && np x) (range_with_len a k) ≡ filter np hs
chosen-range np a zero [] h = refl
chosen-range np a zero (x ∷ hs) h = absurd (let l = h.0 in let m = h.1 in omega (arith, l, m))
chosen-range np a (suc k) [] h = chosen-range np (a + 1) k [] tt
chosen-range np a (suc k) (x ∷ hs) h = ⊎_elim
    (λ e. ap₂ (λ b l. cond b (a ∷ l) l) (ap (λ c. (c || is_in nat_eq a hs) && np a) (eq-eqb a x e))
    (filter-range-same (λ y. is_in nat_eq y (x ∷ hs) && np y) (λ y. is_in nat_eq y hs && np y) (a + 1) k (λ y le. ap (λ c. (c || is_in nat_eq y hs) && np y) (eq-not y x (λ f. omega (arith, f, e, le))))
    ∙ chosen-range np (a + 1) k hs (subst (λ n. Rises (a + 1) n hs) (omega arith) (subst (λ n. Rises (n + 1) (a + suc k) hs) (sym e) h.2)))
    ∙ ap (λ z. cond (np z) (z ∷ filter np hs) (filter np hs)) e)
    (λ lt. let le : a + 1 ≤ x = omega (arith, lt) in ap (λ b. cond (b && np a) (a ∷ filter (λ y. is_in nat_eq y (x ∷ hs) && np y) (range_with_len (a + 1) k)) (filter (λ y. is_in nat_eq y (x ∷ hs) && np y) (range_with_len (a + 1) k)))
    (not-there a (a + 1) (a + suc k) (x ∷ hs) (omega arith) (le, h.1, h.2))
    ∙ chosen-range np (a + 1) k (x ∷ hs) (subst (λ n. Rises (a + 1) n (x ∷ hs)) (omega arith) (le, h.1, h.2)))
    (eq-or-lt_of_le h.0)

-- the known names of some ids
abbrev pub as_known : List KnownName → List Known
as_known names = map (λ (k : KnownName). record { id = k.id; name = k.name }) names

pub get-some : {X : Type 0} (xs : List X) (i : ℕ) → i < length xs → (x : X) × (slice_get xs i ≡ Some x)
get-some [] i lt = absurd (omega (arith, lt))
get-some (x ∷ xs) zero lt = (x, refl)
get-some (x ∷ xs) (suc i) lt = get-some xs i (omega (arith, lt))

pub get-name : (rows : List (Row Name)) (i : ℕ) (row : Row Name) → slice_get rows i ≡ Some row → slice_get (names_of rows) i ≡ Some row.name
get-name [] i row e = absurd (true≢false (sym (ap is_some e)))
get-name (r ∷ rows) zero row e = ap (option_map (λ (q : Row Name). q.name)) e
get-name (r ∷ rows) (suc i) row e = get-name rows i row e

abbrev or_this : {X : Type 0} → X → Option X → X
or_this d None = d
or_this d (Some x) = x

get-in : (xs : List Name) (i : ℕ) (x : Name) → slice_get xs i ≡ Some x → IsIn x xs
get-in [] i x e = absurd (true≢false (sym (ap is_some e)))
get-in (y ∷ xs) zero x e = inl (ap (or_this x) (sym e))
get-in (y ∷ xs) (suc i) x e = inr (get-in xs i x e)

-- each id stands once in a list without repetition
pub one-place : (xs : List Name) → AreDistinct xs → (i j : ℕ) (x : Name) → slice_get xs i ≡ Some x → slice_get xs j ≡ Some x → i ≡ j
one-place [] d i j x e f = absurd (true≢false (sym (ap is_some e)))
one-place (y ∷ xs) d zero zero x e f = refl
one-place (y ∷ xs) d zero (suc j) x e f = absurd (d.0 (subst (λ z. IsIn z xs) (ap (or_this x) (sym e)) (get-in xs j x f)))
one-place (y ∷ xs) d (suc i) zero x e f = absurd (d.0 (subst (λ z. IsIn z xs) (ap (or_this x) (sym f)) (get-in xs i x e)))
one-place (y ∷ xs) d (suc i) (suc j) x e f = ap suc (one-place xs d.1 i j x e f)

module _ (r : World Name) where
  -- the names of the ids, one more
  pub pick-next : (id : ℕ) (ids : List ℕ) (row : Row Name) → slice_get r.master id ≡ Some row → named_ids r (id ∷ ids) ≡ record { id = id; name = row.name } ∷ named_ids r ids
  pick-next id ids row e = ap (λ o. cons_option (option_map (λ (q : Row Name). record { id = id; name = q.name }) o) (named_ids r ids)) e

  pick-ids : (least : ℕ) (ids : List ℕ) → Rises least (length r.master) ids → map (λ (k : Known). k.id) (as_known (named_ids r ids)) ≡ ids
  pick-ids least [] h = refl
  pick-ids least (id ∷ ids) h = let g = get-some r.master id h.1 in
      ap (λ l. map (λ (k : Known). k.id) (as_known l)) (pick-next id ids g.0 g.1) ∙ ap (λ l. id ∷ l) (pick-ids (id + 1) ids h.2)

  pub pick-names : (least : ℕ) (ids : List ℕ) → Rises least (length r.master) ids → AllByRecursion (λ (k : Known). slice_get (names_of r.master) k.id ≡ Some k.name) (as_known (named_ids r ids))
  pick-names least [] h = tt
  pick-names least (id ∷ ids) h = let g = get-some r.master id h.1 in
      subst (λ l. AllByRecursion (λ (k : Known). slice_get (names_of r.master) k.id ≡ Some k.name) (as_known l)) (sym (pick-next id ids g.0 g.1)) (get-name r.master id g.0 g.1, pick-names (id + 1) ids h.2)

  -- a name that was picked is that of one of the ids
  pick-from : (least : ℕ) (ids : List ℕ) → Rises least (length r.master) ids → (x : Name) → IsIn x (map (λ (k : Known). k.name) (as_known (named_ids r ids))) → (id : ℕ) × (least ≤ id) × (slice_get (names_of r.master) id ≡ Some x)
  pick-from least [] h x i = absurd i
  pick-from least (id ∷ ids) h x i = let g = get-some r.master id h.1 in
      ⊎_elim (λ e. (id, h.0, get-name r.master id g.0 g.1 ∙ ap Some (sym e)))
      (λ j. let n = pick-from (id + 1) ids h.2 x j in (n.0, (let a = h.0 in let b = n.1 in omega (arith, a, b)), n.2))
      (subst (λ l. IsIn x (map (λ (k : Known). k.name) (as_known l))) (pick-next id ids g.0 g.1) i)

  pick-distinct : AreDistinct (names_of r.master) → (least : ℕ) (ids : List ℕ) → Rises least (length r.master) ids → AreDistinct (map (λ (k : Known). k.name) (as_known (named_ids r ids)))
  pick-distinct d least [] h = tt
  pick-distinct d least (id ∷ ids) h = let g = get-some r.master id h.1 in
      subst (λ l. AreDistinct (map (λ (k : Known). k.name) (as_known l))) (sym (pick-next id ids g.0 g.1)) (
        (λ i. let n = pick-from (id + 1) ids h.2 g.0.name i in let e = one-place (names_of r.master) d id n.0 g.0.name (get-name r.master id g.0 g.1) n.2 in let le = n.1 in absurd (omega (arith, e, le))),
        pick-distinct d (id + 1) ids h.2,
      )

  -- picking commutes with a choice of ids
  pick-chosen : (f : ℕ → Bool) (least : ℕ) (ids : List ℕ) → Rises least (length r.master) ids → filter (λ (k : Known). f k.id) (as_known (named_ids r ids)) ≡ as_known (named_ids r (filter f ids))
  pick-chosen f least [] h = refl
  pick-chosen f least (id ∷ ids) h = let g = get-some r.master id h.1 in
      ap (λ l. filter (λ (k : Known). f k.id) (as_known l)) (pick-next id ids g.0 g.1)
      ∙ by_test (f id) (pick-chosen f (id + 1) ids h.2) g.0 g.1
    where
      by_test : (b : Bool) → filter (λ (k : Known). f k.id) (as_known (named_ids r ids)) ≡ as_known (named_ids r (filter f ids)) → (row : Row Name) → slice_get r.master id ≡ Some row
          → cond b (record { id = id; name = row.name } ∷ filter (λ (k : Known). f k.id) (as_known (named_ids r ids))) (filter (λ (k : Known). f k.id) (as_known (named_ids r ids)))
          ≡ as_known (named_ids r (cond b (id ∷ filter f ids) (filter f ids)))
      by_test true rec row e = ap (λ l. record { id = id; name = row.name } ∷ l) rec ∙ sym (ap as_known (pick-next id (filter f ids) row e))
      by_test false rec row e = rec

  same-names : (names : List KnownName) → map (λ (k : Known). k.name) (as_known names) ≡ map (λ (k : KnownName). k.name) names
  same-names [] = refl
  same-names (k ∷ names) = ap (λ l. k.name ∷ l) (same-names names)

-- the highest ids of segments that follow one another rise
pub follow-bound : (first end : ℕ) (ss : List Segment) → Follow first end ss → first ≤ end
follow-bound first end [] h = (let e = h in omega (arith, e))
follow-bound first end (s ∷ more) h = let n = follow-bound (s.high + 1) end more h.2 in let u = h.1 in omega (arith, n, u)

pub follow-rises : (first end : ℕ) (ss : List Segment) → Follow first end ss → Rises first end (map (λ (s : Segment). s.high) ss)
follow-rises first end [] h = tt
follow-rises first end (s ∷ more) h = (h.1, (let n = follow-bound (s.high + 1) end more h.2 in omega (arith, n)), follow-rises (s.high + 1) end more h.2)

pub same-merge : (ps : List ℕ) → clones.merge_parents ps ≡ grammar.merge_parents ps
same-merge [] = refl
same-merge (p ∷ []) = refl
same-merge (p ∷ q ∷ more) = refl

merged-in : (p : ℕ) (ps : List ℕ) → IsIn p (grammar.merge_parents ps) → IsIn p ps
merged-in p [] i = i
merged-in p (q ∷ []) i = absurd i
merged-in p (q ∷ x ∷ more) i = i

pub in-flat : {X : Type 0} (f : X → List ℕ) (p : ℕ) (x : X) (xs : List X) → IsIn x xs → IsIn p (f x) → IsIn p (flat_map f xs)
in-flat f p x [] i j = absurd i
in-flat f p x (y ∷ xs) (inl e) j = in-left p (f y) (flat_map f xs) (subst (λ z. IsIn p (f z)) e j)
in-flat f p x (y ∷ xs) (inr i) j = in-right p (f y) (flat_map f xs) (in-flat f p x xs i j)

in-map : {X : Type 0} (f : X → ℕ) (x : X) (xs : List X) → IsIn x xs → IsIn (f x) (map f xs)
in-map f x [] i = absurd i
in-map f x (y ∷ xs) (inl e) = inl (ap f e)
in-map f x (y ∷ xs) (inr i) = inr (in-map f x xs i)

pub all-in : (xs ys : List ℕ) → ((x : ℕ) → IsIn x xs → IsIn x ys) → AreAllIn xs ys
all-in [] ys f = tt
all-in (x ∷ xs) ys f = (f x (inl refl), all-in xs ys (λ y i. f y (inr i)))

map-filter : (f : Known → Bool) (x : Name) (ks : List Known) → IsIn x (map (λ (k : Known). k.name) (filter f ks)) → IsIn x (map (λ (k : Known). k.name) ks)
map-filter f x [] i = i
map-filter f x (k ∷ ks) i = by_test (f k) i (map-filter f x ks)
  where
    by_test : (b : Bool) → IsIn x (map (λ (k : Known). k.name) (cond b (k ∷ filter f ks) (filter f ks))) → (IsIn x (map (λ (k : Known). k.name) (filter f ks)) → IsIn x (map (λ (k : Known). k.name) ks)) → IsIn x (map (λ (k : Known). k.name) (k ∷ ks))
    by_test true (inl e) rec = inl e
    by_test true (inr j) rec = inr (rec j)
    by_test false j rec = inr (rec j)

module _ (r : World Name) (named : IsNamedWorld (master_alone r)) where
  whole_rows : rows_of (master_alone r) ≡ r.master
  whole_rows = append-nil r.master

  abbrev pub segments : List Segment
  segments = master_segments r

  abbrev pub highest : List ℕ
  highest = map (λ (s : Segment). s.high) segments

  abbrev pub parents : List ℕ
  parents = flat_map (λ (s : Segment). s.parents) segments

  abbrev pub merged : List ℕ
  merged = flat_map (λ (s : Segment). clones.merge_parents s.parents) segments

  abbrev pub kept : ℕ → Bool
  kept id = is_in nat_eq id highest || is_in nat_eq id merged

  abbrev pub last_one : ℕ → Bool
  last_one id = is_in nat_eq id highest && not (is_in nat_eq id parents)

  pub ids-rise : Rises 0 (length r.master) (stored_ids r)
  ids-rise = rises-range kept 0 (length r.master) (length r.master) (omega arith)

  pub follow : Follow 0 (length r.master) segments
  follow = segments-cover r named

  pub highest-rise : Rises 0 (length r.master) highest
  highest-rise = follow-rises 0 (length r.master) segments follow

  pub ids-are : known_ids (clone_change r) ≡ stored_ids r
  ids-are = pick-ids r 0 (stored_ids r) ids-rise

  -- an id below the end that is kept is stored
  stored-in : (id : ℕ) → id < length r.master → kept id ≡ true → IsIn id (known_ids (clone_change r))
  stored-in id lt e = subst (IsIn id) (sym ids-are) (in-filter kept id (range_with_len 0 (length r.master)) (in-range 0 (length r.master) id zero-le (omega (arith, lt))) e)

  pub segment-known : (s : Segment) → IsIn s segments → IsIn s.high (known_ids (clone_change r)) × AreAllIn (grammar.merge_parents s.parents) (known_ids (clone_change r))
  segment-known s i =
      let high = in-map (λ (s : Segment). s.high) s segments i in
      let below = (rises-in 0 (length r.master) highest highest-rise s.high high).1 in
      let lows = (each IsPlain segments (segments-plain r named) s i).below in
      let flat = (each IsPlain segments (segments-plain r named) s i).ascending in (
        stored-in s.high below (or_left (is_in nat_eq s.high highest) _ (is-there s.high highest high)),
        all-in (grammar.merge_parents s.parents) (known_ids (clone_change r)) (λ p j.
            let low = each (λ q. q < s.low) s.parents lows p (merged-in p s.parents j) in
            stored-in p (omega (arith, low, flat, below)) (or_right (is_in nat_eq p highest) (is_in nat_eq p merged)
            (is-there p merged (in-flat (λ (s : Segment). clones.merge_parents s.parents) p s segments i (subst (IsIn p) (sym (same-merge s.parents)) j))))),
      )

  name-is : (x : Name) → IsIn x (known_names (clone_change r)) → IsName x
  name-is x i = let n = pick-from r 0 (stored_ids r) ids-rise x i in
      name-of (master_alone r) named x (subst (λ l. IsIn x (names_of l)) (sym whole_rows) (get-in (names_of r.master) n.0 x n.2))

  -- the heads are the names of the last ids among those that are known
  heads-same : heads_of r ≡ head_names (clone_change r)
  heads-same =
      sym (same-names r (named_ids r (filter (λ id. not (is_in nat_eq id parents)) highest)))
      ∙ ap (λ l. map (λ (k : Known). k.name) (as_known (named_ids r l)))
      (sym (filter-twice last_one kept (range_with_len 0 (length r.master)) (λ x e. or_left (is_in nat_eq x highest) _ (and_true (is_in nat_eq x highest) _ e).0)
      ∙ chosen-range (λ id. not (is_in nat_eq id parents)) 0 (length r.master) highest (subst (λ n. Rises 0 n highest) (omega arith) highest-rise)))
      ∙ ap (map (λ (k : Known). k.name)) (sym (pick-chosen r last_one 0 (stored_ids r) ids-rise))

  head-is : (x : Name) → IsIn x (heads_of r) → IsName x
  head-is x i = name-is x (in-names x (subst (IsIn x) heads-same i))
    where
      in-names : (x : Name) → IsIn x (head_names (clone_change r)) → IsIn x (known_names (clone_change r))
      in-names x i = map-filter (λ (k : Known). last_one k.id) x (clone_change r).known i

  module _ (some : 0 < length r.master) (fits : length r.master ≤ 16777216) (few : length (heads_of r) ≤ 65535) where
    -- as for a flush of these rows over nothing
    like : IsPayload (flush_change empty_world (master_alone r))
    like = (change-follows [] empty_world (master_alone r) tt (record { count = refl; master = refl; known = tt; others = refl; names = refl }) tt named r.master refl fits zero-le (subst (λ l. 0 < length l) (sym whole_rows) some)).whole

    payload : IsPayload (clone_change r)
    payload = record {
      format = record { version = inr refl; no_levels = λ e. absurd (eqb-false 2 1 refl e) };
      levels = record {
        each = subst (AllByRecursion (IsOfLevel (length r.master))) (new-all segments) like.levels.each;
        ascend = subst AscendByLevel (new-all segments) like.levels.ascend;
      };
      counts = record { grows = zero-le; master = fits; others = zero-le };
      cover = record { flat_master = like.cover.flat_master; flat_others = tt; master = follow; others = refl };
      parents = record { master = like.parents.master; others = tt };
      maximal = record { master = like.maximal.master; others = tt };
      known = record {
        ascend = subst IsStrictlyIncreasing (sym ids-are) (ascend-increasing 0 (length r.master) (stored_ids r) (rises-ascend 0 (length r.master) (stored_ids r) ids-rise));
        within = subst (AllByRecursion (λ id. (0 ≤ id) × (id < length r.master))) (sym ids-are) (all-each (λ id. (0 ≤ id) × (id < length r.master)) (stored_ids r) (λ x i. rises-in 0 (length r.master) (stored_ids r) ids-rise x i));
      };
      by_kind = inr (inl (record { kind = refl; cloned = refl; first = refl; something = some; no_others = refl; known = all-each (λ (s : Segment). IsIn s.high (known_ids (clone_change r)) × AreAllIn (grammar.merge_parents s.parents) (known_ids (clone_change r))) segments segment-known }));
      heads_fit = (let k : 65536 ≤ 2 ^ 16 = lit≤ tt in omega (arith, few, k));
      names = all-each IsName (known_names (clone_change r)) name-is;
      head_names = all-each IsName (heads_of r) head-is;
      other_names = tt;
    }

    pub clone-follows : MayFollow [] (clone_change r)
    clone-follows = record {
      whole = payload;
      count = refl;
      version = tt;
      clone_first = λ e. refl;
      clone_heads = λ e. heads-same;
      whole_first = λ e. refl;
      whole_heads = λ e. absurd (eqb-false 2 3 refl e);
      levels = λ _. sym (ap (new_levels []) (ap (flat_segments_of 0) (ap parents_listed (append-nil segments) ∙ flat-keeps 0 (parent_ids same_name (master_alone r) r.master))) ∙ new-all segments);
      distinct = subst AreDistinct (sym (append-nil (known_names (clone_change r) ++ []) ∙ append-nil (known_names (clone_change r))))
          (pick-distinct r (subst (λ l. AreDistinct (names_of l)) whole_rows (history-distinct [] (rows_of (master_alone r)) named.world).0) 0 (stored_ids r) ids-rise);
    }

    pub clone-stands : StandFor (clone_change r ∷ []) (master_alone r)
    clone-stands = record {
      count = refl;
      master = ap parents_listed (append-nil segments) ∙ flat-keeps 0 (parent_ids same_name (master_alone r) r.master);
      known = subst (AllByRecursion (λ (k : Known). slice_get (names_of r.master) k.id ≡ Some k.name)) (sym (append-nil (clone_change r).known)) (pick-names r 0 (stored_ids r) ids-rise);
      others = refl;
      names = refl;
    }

    pub clone-held : HoldPayloads (clone_change r ∷ []) (master_alone r)
    clone-held = record { lawful = (clone-follows, tt); stand = clone-stands; world = named }
