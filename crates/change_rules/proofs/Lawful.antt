-- The payload of a change is in the grammar, and may come behind those that stand for the old world.
use Rattle.std.proofs.Common.{◌≡◌, ◌≢◌, ◌<◌, ◌≤◌, ◌+◌, ◌-◌, ◌^◌, ℕ, zero, suc, Bool, true, false, ◌⊎◌, inl, inr, List, [], ◌∷◌, ◌++◌, length, map, drop, flat_map, Option, Some, None, slice_get, slice_index, refl, sym, ap, ap₂, subst, subst₂, ◌∙◌, if◌then◌else◌, ⊎_elim, true≢false, append_assoc, append-nil, arith, length-append, drop_at, is_some, nat_eq, le_refl, zero-le, zero-lt-suc, eq-or-lt_of_le, lit≤, lit<}
use Rattle.std.specs.List.{AllByRecursion}
use Rattle.std.specs.List.Sorted.{IsStrictlyIncreasing}
use Rattle.std.specs.Cmp.Lexicographic.{pointwise, bytes_decides}
use Rattle.std.proofs.lemmas.List.{map-append, length-map}
use Rattle.std.proofs.lemmas.Bool.{eqb-false, lt-ltb, le-ltb}
use Rattle.id_groups.specs.Lists.{IsIn, is_in, AreDistinct}
use Rattle.id_groups.specs.Name.{Name, IsName, same_name}
use Rattle.id_groups.proofs.Names.{same_name-exact, same_name-self}
use Rattle.id_groups.proofs.Listing.{found, there, missing}
use Rattle.commit_graph.specs.World.{Row, World, IsWorld, IsNamedWorld, IsHistory, rows_of, names_of}
use Rattle.commit_graph.specs.Ids.{id_in, place_of, parent_ids}
use Rattle.commit_graph.proofs.Histories.{history-front, history-rest, in-all, in-append}
use Rattle.commit_graph.proofs.Down.{in-left, in-right}
use Rattle.commit_graph.proofs.Naming.{each, all-each, name-of}
use Rattle.change_rules.proofs.Spans.{Span, single, with_id, flat_segments, flat_record, same-change, same-segments}
use Rattle.segment_codec.specs.Record.{Segment, IsSegment}
use Rattle.batch_codec.specs.Payload.{Payload, Known, known_names}
use Rattle.segment_codec.specs.Table.{Follow}
use Rattle.batch_codec.specs.Grammar.{AreMaximal, HasOthersParents, IsPayload}
use Rattle.change_rules.specs.Lawful.{MayFollow, AreLawful}
use Rattle.change_rules.specs.Change.{known_from, flush_change}
use Rattle.change_rules.specs.Tables.{StandFor}
use Rattle.change_rules.proofs.Changes.{flat-snoc, names-length, place-front, rows-front, parents-known, change-stands}
use Rattle.change_rules.proofs.LevelSections.{whole-flats, new-each, new-ascend}
use Rattle.change_rules.specs.Lawful.{master_flats}
use Rattle.segment_codec.specs.Flat.{IsFlat}
use Rattle.segment_rules.specs.Flat.{flat_segments_of, parents_listed}
use Rattle.segment_rules.specs.NewLevels.{new_levels}
use Rattle.segment_levels.specs.Whole.{IsWholeTo, Grows}
use Rattle.segment_levels.proofs.Continuing.{flats-grow}

-- Flat segments: each fact of an id and its parents is one of the segments' lowest ids.

abbrev pub AllFrom : (ℕ → List ℕ → Type 0) → ℕ → List (List ℕ) → Type 0
AllFrom Q first [] = Unit {0}
AllFrom Q first (parents ∷ more) = Q first parents × AllFrom Q (first + 1) more

pub record IsSpanOf (Q : ℕ → List ℕ → Type 0) (end : ℕ) (s : Span) : Type 0 where
  pub up : s.low ≤ s.high
  pub in_bounds : s.high < end
  pub own : Q s.low s.parents

abbrev pub CoverSpans : ℕ → ℕ → List Span → Type 0
CoverSpans first end [] = first ≡ end
CoverSpans first end (s ∷ more) = (s.low ≡ first) × (first ≤ s.high) × CoverSpans (s.high + 1) end more

abbrev pub AreMaxSpans : List Span → Type 0
AreMaxSpans [] = Unit {0}
AreMaxSpans (s ∷ more) = AllByRecursion (λ (t : Span). t.parents ≢ (t.low - 1) ∷ []) more

with-cover : (id end : ℕ) (parents : List ℕ) (spans : List Span) → CoverSpans (id + 1) end spans → CoverSpans id end (with_id id parents spans)
with-cover id end parents [] h = (refl, le_refl id, h)
with-cover id end parents (next ∷ more) h = pick (pointwise nat_eq next.parents (id ∷ []))
  where
    pick : (b : Bool) → CoverSpans id end (if b then record { low = id; high = next.high; parents = parents } ∷ more else single id parents ∷ next ∷ more)
    pick true = (refl, (let a = h.1 in omega (arith, a)), h.2)
    pick false = (refl, le_refl id, h)

with-spans : (Q : ℕ → List ℕ → Type 0) (end id : ℕ) (parents : List ℕ) (spans : List Span) → id < end → Q id parents → CoverSpans (id + 1) end spans
    → AllByRecursion (IsSpanOf Q end) spans → AllByRecursion (IsSpanOf Q end) (with_id id parents spans)
with-spans Q end id parents [] lt q c h = (record { up = le_refl id; in_bounds = lt; own = q }, tt)
with-spans Q end id parents (next ∷ more) lt q c h = pick (pointwise nat_eq next.parents (id ∷ []))
  where
    pick : (b : Bool) → AllByRecursion (IsSpanOf Q end) (if b then record { low = id; high = next.high; parents = parents } ∷ more else single id parents ∷ next ∷ more)
    pick true = (record { up = (let a = c.0 in let b = h.0.up in omega (arith, a, b)); in_bounds = h.0.in_bounds; own = q }, h.1)
    pick false = (record { up = le_refl id; in_bounds = lt; own = q }, h)

with-max : (id end : ℕ) (parents : List ℕ) (spans : List Span) → CoverSpans (id + 1) end spans → AreMaxSpans spans → AreMaxSpans (with_id id parents spans)
with-max id end parents [] c h = tt
with-max id end parents (next ∷ more) c h = pick (pointwise nat_eq next.parents (id ∷ [])) refl
  where
    pick : (b : Bool) → pointwise nat_eq next.parents (id ∷ []) ≡ b → AreMaxSpans (if b then record { low = id; high = next.high; parents = parents } ∷ more else single id parents ∷ next ∷ more)
    pick true e = h
    pick false e = (
      (λ f. let low = c.0 in let k : next.low - 1 ≡ id = omega (arith, low) in
          true≢false (sym ((bytes_decides next.parents (id ∷ [])).1 (f ∙ ap (λ n. n ∷ []) k)) ∙ e)),
      h,
    )

pub flat-cover : (first end : ℕ) (ps : List (List ℕ)) → first + length ps ≡ end → CoverSpans first end (flat_segments first ps)
flat-cover first end [] e = omega (arith, e)
flat-cover first end (p ∷ more) e = with-cover first end p (flat_segments (first + 1) more) (flat-cover (first + 1) end more (omega (arith, e)))

pub flat-spans : (Q : ℕ → List ℕ → Type 0) (end first : ℕ) (ps : List (List ℕ)) → first + length ps ≡ end → AllFrom Q first ps → AllByRecursion (IsSpanOf Q end) (flat_segments first ps)
flat-spans Q end first [] e h = tt
flat-spans Q end first (p ∷ more) e h = with-spans Q end first p (flat_segments (first + 1) more) (omega (arith, e)) h.0
    (flat-cover (first + 1) end more (omega (arith, e))) (flat-spans Q end (first + 1) more (omega (arith, e)) h.1)

pub flat-max : (first end : ℕ) (ps : List (List ℕ)) → first + length ps ≡ end → AreMaxSpans (flat_segments first ps)
flat-max first end [] e = tt
flat-max first end (p ∷ more) e = with-max first end p (flat_segments (first + 1) more) (flat-cover (first + 1) end more (omega (arith, e))) (flat-max (first + 1) end more (omega (arith, e)))

pub all-records : (P : Span → Type 0) (R : Segment → Type 0) (spans : List Span) → ((s : Span) → P s → R (flat_record s)) → AllByRecursion P spans → AllByRecursion R (map flat_record spans)
all-records P R [] f h = tt
all-records P R (s ∷ spans) f h = (f s h.0, all-records P R spans f h.1)

pub record-cover : (first end : ℕ) (spans : List Span) → CoverSpans first end spans → Follow first end (map flat_record spans)
record-cover first end [] h = h
record-cover first end (s ∷ more) h = (h.0, h.1, record-cover (s.high + 1) end more h.2)

pub record-max : (spans : List Span) → AreMaxSpans spans → AreMaximal (map flat_record spans)
record-max [] h = tt
record-max (s ∷ more) h = all-records (λ t. t.parents ≢ (t.low - 1) ∷ []) (λ t. t.parents ≢ (t.low - 1) ∷ []) more (λ t k. k) h

-- Names known from an id on.

abbrev ids : ℕ → List Name → List ℕ
ids n names = map (λ (k : Known). k.id) (known_from n names)

ids-length : (n : ℕ) (names : List Name) → length (ids n names) ≡ length names
ids-length n [] = refl
ids-length n (x ∷ names) = ap suc (ids-length (n + 1) names)

ids-at : (n : ℕ) (names : List Name) (k : ℕ) → k < length names → slice_index (ids n names) k ≡ n + k
ids-at n [] k lt = absurd (omega (arith, lt))
ids-at n (x ∷ names) zero lt = omega arith
ids-at n (x ∷ names) (suc k) lt = let r = ids-at (n + 1) names k (omega (arith, lt)) in let e : n + 1 + k ≡ n + suc k = omega arith in r ∙ e

ids-rise : (n : ℕ) (names : List Name) → IsStrictlyIncreasing (ids n names)
ids-rise n names k lt =
    let size = ids-length n names in
    subst₂ (λ a b. a < b) (sym (ids-at n names k (omega (arith, size, lt)))) (sym (ids-at n names (k + 1) (omega (arith, size, lt)))) (omega arith)

ids-within : (lo n end : ℕ) (names : List Name) → lo ≤ n → n + length names ≡ end → AllByRecursion (λ id. (lo ≤ id) × (id < end)) (ids n names)
ids-within lo n end [] le e = tt
ids-within lo n end (x ∷ names) le e = ((le, omega (arith, e)), ids-within lo (n + 1) end names (omega (arith, le)) (omega (arith, e)))

ids-in : (n : ℕ) (names : List Name) (id : ℕ) → n ≤ id → id < n + length names → IsIn id (ids n names)
ids-in n [] id le lt = absurd (omega (arith, le, lt))
ids-in n (x ∷ names) id le lt = ⊎_elim (λ e. inl (sym e)) (λ more. inr (ids-in (n + 1) names id (omega (arith, more)) (omega (arith, lt)))) (eq-or-lt_of_le le)

names-known : (n : ℕ) (names : List Name) → map (λ (k : Known). k.name) (known_from n names) ≡ names
names-known n [] = refl
names-known n (x ∷ names) = ap (λ l. x ∷ l) (names-known (n + 1) names)

-- Lists without repetition.

pub distinct-join : {X : Type 0} (xs ys : List X) → AreDistinct xs → AreDistinct ys → ((x : X) → IsIn x xs → IsIn x ys → ⊥) → AreDistinct (xs ++ ys)
distinct-join [] ys d e apart = e
distinct-join (x ∷ xs) ys d e apart = ((λ i. ⊎_elim d.0 (λ j. apart x (inl refl) j) (in-append x xs ys i)), distinct-join xs ys d.1 e (λ y i. apart y (inr i)))

pub distinct-parts : {X : Type 0} (xs ys : List X) → AreDistinct (xs ++ ys) → AreDistinct xs × AreDistinct ys × ((x : X) → IsIn x xs → IsIn x ys → ⊥)
distinct-parts [] ys h = (tt, h, λ x i. absurd i)
distinct-parts (x ∷ xs) ys h =
    let r = distinct-parts xs ys h.1 in
    (((λ i. h.0 (in-left x xs ys i)), r.0), r.1, λ y i j. ⊎_elim (λ e. h.0 (in-right x xs ys (subst (λ z. IsIn z ys) e j))) (λ k. r.2 y k j) i)

in-map-back : {X Y : Type 0} (f : X → Y) (y : Y) (xs : List X) → IsIn y (map f xs) → (x : X) × IsIn x xs × (y ≡ f x)
in-map-back f y [] i = absurd i
in-map-back f y (x ∷ xs) (inl e) = (x, inl refl, e)
in-map-back f y (x ∷ xs) (inr i) = let r = in-map-back f y xs i in (r.0, inr r.1, r.2)

map-distinct : {X Y : Type 0} (f : X → Y) (xs : List X) → ((x y : X) → IsIn x xs → IsIn y xs → f x ≡ f y → x ≡ y) → AreDistinct xs → AreDistinct (map f xs)
map-distinct f [] one d = tt
map-distinct f (x ∷ xs) one d = (
  (λ i. let r = in-map-back f (f x) xs i in d.0 (subst (λ z. IsIn z xs) (sym (one x r.0 (inl refl) (inr r.1) r.2)) r.1)),
  map-distinct f xs (λ y z i j. one y z (inr i) (inr j)) d.1,
)

all-map-in : {X : Type 0} (f : X → ℕ) (P : ℕ → Type 0) (xs : List X) → ((x : X) → IsIn x xs → P (f x)) → AllByRecursion P (map f xs)
all-map-in f P [] h = tt
all-map-in f P (x ∷ xs) h = (h x (inl refl), all-map-in f P xs (λ y i. h y (inr i)))

pub history-distinct : (before : List Name) (rows : List (Row Name)) → IsHistory before rows → AreDistinct (names_of rows) × ((x : Name) → IsIn x (names_of rows) → IsIn x before → ⊥)
history-distinct before [] h = (tt, λ x i. absurd i)
history-distinct before (r ∷ rows) h =
    let q = history-distinct (before ++ r.name ∷ []) rows h.1 in (
      ((λ i. q.1 r.name i (in-right r.name before (r.name ∷ []) (inl refl))), q.0),
      λ x i j. ⊎_elim (λ e. h.0.fresh (subst (λ z. IsIn z before) e j)) (λ k. q.1 x k (in-left x before (r.name ∷ []) j)) i,
    )

lawful-distinct : (before more : List Payload) → AreDistinct (flat_map known_names before) → AreLawful before more → AreDistinct (flat_map known_names (before ++ more))
lawful-distinct before [] d h = subst (λ l. AreDistinct (flat_map known_names l)) (sym (append-nil before)) d
lawful-distinct before (p ∷ more) d h =
    let front = distinct-parts (flat_map known_names (before ++ p ∷ [])) p.other_names h.0.distinct in
    subst (λ l. AreDistinct (flat_map known_names l)) (append_assoc before (p ∷ []) more) (lawful-distinct (before ++ p ∷ []) more front.0 h.1)

-- no version is above the second
pub versions-most : (before more : List Payload) → AreLawful before more → AllByRecursion (λ (q : Payload). q.version ≤ 2) more
versions-most before [] h = tt
versions-most before (p ∷ more) h =
    (⊎_elim (λ e. omega (arith, e)) (λ e. omega (arith, e)) h.0.whole.format.version, versions-most (before ++ p ∷ []) more h.1)

-- Places of names.

abbrev some_or : {X : Type 0} → X → Option X → X
some_or d None = d
some_or d (Some x) = x

some-same : {X : Type 0} (x y : X) → ◌≡◌ {A = Option X} (Some x) (Some y) → x ≡ y
some-same x y e = ap (some_or x) e

get-in : (xs : List Name) (i : ℕ) (x : Name) → slice_get xs i ≡ Some x → IsIn x xs
get-in [] i x e = absurd (true≢false (sym (ap is_some e)))
get-in (y ∷ xs) zero x e = inl (sym (some-same y x e))
get-in (y ∷ xs) (suc i) x e = inr (get-in xs i x e)

get-place : (x : Name) (xs : List Name) → IsIn x xs → slice_get xs (place_of same_name x xs) ≡ Some x
get-place x [] i = absurd i
get-place x (y ∷ xs) i = go (same_name y x) refl (λ j. get-place x xs j)
  where
    go : (b : Bool) → same_name y x ≡ b → (IsIn x xs → slice_get xs (place_of same_name x xs) ≡ Some x) → slice_get (y ∷ xs) (if b then 0 else suc (place_of same_name x xs)) ≡ Some x
    go true e rec = ap Some (same_name-exact y x e)
    go false e rec = rec (⊎_elim (λ f. absurd (true≢false (sym (same_name-self x) ∙ ap (λ z. same_name z x) f ∙ e))) (λ j. j) i)

place-below : (x : Name) (xs : List Name) → IsIn x xs → place_of same_name x xs < length xs
place-below x [] i = absurd i
place-below x (y ∷ xs) i = go (same_name y x) refl (λ j. place-below x xs j)
  where
    go : (b : Bool) → same_name y x ≡ b → (IsIn x xs → place_of same_name x xs < length xs) → (if b then 0 else suc (place_of same_name x xs)) < length (y ∷ xs)
    go true e rec = zero-lt-suc _
    go false e rec = let r = rec (⊎_elim (λ f. absurd (true≢false (sym (same_name-self x) ∙ ap (λ z. same_name z x) f ∙ e))) (λ j. j) i) in omega (arith, r)

place-same : (x y : Name) (xs : List Name) → IsIn x xs → IsIn y xs → place_of same_name x xs ≡ place_of same_name y xs → x ≡ y
place-same x y xs i j e = some-same x y (sym (get-place x xs i) ∙ ap (slice_get xs) e ∙ get-place y xs j)

where-in : (x : Name) (xs : List Name) → IsIn x xs ⊎ (is_in same_name x xs ≡ false)
where-in x xs = by_test (is_in same_name x xs) refl
  where
    by_test : (b : Bool) → is_in same_name x xs ≡ b → IsIn x xs ⊎ (is_in same_name x xs ≡ false)
    by_test true e = inl (found same_name same_name-exact same_name-self x xs e)
    by_test false e = inr e

known-in : (payloads : List Payload) (x : Name) → IsIn x (flat_map known_names payloads) → (k : Known) × IsIn k (flat_map (λ p. p.known) payloads) × (x ≡ k.name)
known-in [] x i = absurd i
known-in (p ∷ payloads) x i = ⊎_elim
    (λ j. let r = in-map-back (λ (k : Known). k.name) x p.known j in (r.0, in-left r.0 p.known (flat_map (λ q. q.known) payloads) r.1, r.2))
    (λ j. let r = known-in payloads x j in (r.0, in-right r.0 p.known (flat_map (λ q. q.known) payloads) r.1, r.2))
    (in-append x (known_names p) (flat_map known_names payloads) i)

-- Numbers of the two groups.

in-master : (n m : ℕ) → n < m → m ≤ 2 ^ 56 → n < 2 ^ 56
in-master n m lt le = omega (arith, lt, le)

pub within-group : (n : ℕ) → n ≤ 16777216 → n ≤ 2 ^ 56
within-group n le = let k : 16777216 ≤ 2 ^ 56 = lit≤ tt in omega (arith, k, le)

groups-apart : (a b k m : ℕ) → a < m → m ≤ 2 ^ 56 → b ≡ 2 ^ 56 + k → a ≡ b → ⊥
groups-apart a b k m lt le e same = absurd (omega (arith, lt, le, e, same))

-- what holds of the parents of an id, and of those of one of the others
abbrev pub MayHave : ℕ → List ℕ → Type 0
MayHave id parents = AllByRecursion (λ p. p < id) parents × AreDistinct parents × (length parents ≤ 8)

abbrev OthersMayHave : ℕ → ℕ → List ℕ → Type 0
OthersMayHave after id parents = MayHave id parents × (2 ^ 56 ≤ id) × AllByRecursion (λ p. (p < after) ⊎ ((2 ^ 56 ≤ p) × (p < id))) parents

-- where there are others, the master group has its ids apart from theirs
module _ (new : World Name) (apart : (x : Name) → IsIn x (names_of new.others) → length new.master ≤ 2 ^ 56) where
  id-master : (x : Name) → IsIn x (names_of new.master) → id_in same_name new x ≡ place_of same_name x (names_of new.master)
  id-master x i = ap (λ b. if b then place_of same_name x (names_of new.master) else 2 ^ 56 + place_of same_name x (names_of new.others))
      (there same_name same_name-exact same_name-self x (names_of new.master) i)

  id-other : (x : Name) → is_in same_name x (names_of new.master) ≡ false → id_in same_name new x ≡ 2 ^ 56 + place_of same_name x (names_of new.others)
  id-other x e = ap (λ b. if b then place_of same_name x (names_of new.master) else 2 ^ 56 + place_of same_name x (names_of new.others)) e

  below-after : (x : Name) → IsIn x (names_of new.master) → id_in same_name new x < length new.master
  below-after x i = subst (λ k. k < length new.master) (sym (id-master x i))
      (subst (λ k. place_of same_name x (names_of new.master) < k) (names-length new.master) (place-below x (names_of new.master) i))

  other-in : (x : Name) → IsIn x (names_of (rows_of new)) → is_in same_name x (names_of new.master) ≡ false → IsIn x (names_of new.others)
  other-in x i e = ⊎_elim (λ j. absurd (missing same_name same_name-exact same_name-self x (names_of new.master) e j)) (λ j. j)
      (in-append x (names_of new.master) (names_of new.others) (subst (IsIn x) (map-append (λ r. r.name) new.master new.others) i))

  -- two commits have two ids
  id-same : (x y : Name) → IsIn x (names_of (rows_of new)) → IsIn y (names_of (rows_of new)) → id_in same_name new x ≡ id_in same_name new y → x ≡ y
  id-same x y i j e = ⊎_elim
      (λ a. ⊎_elim
      (λ b. place-same x y (names_of new.master) a b (sym (id-master x a) ∙ e ∙ id-master y b))
      (λ b. absurd (groups-apart (id_in same_name new x) (id_in same_name new y) _ (length new.master) (below-after x a) (apart y (other-in y j b)) (id-other y b) e))
      (where-in y (names_of new.master)))
      (λ a. ⊎_elim
      (λ b. absurd (groups-apart (id_in same_name new y) (id_in same_name new x) _ (length new.master) (below-after y b) (apart x (other-in x i a)) (id-other x a) (sym e)))
      (λ b. place-same x y (names_of new.others) (other-in x i a) (other-in y j b)
      (let f : 2 ^ 56 + place_of same_name x (names_of new.others) ≡ 2 ^ 56 + place_of same_name y (names_of new.others) = sym (id-other x a) ∙ e ∙ id-other y b in omega (arith, f)))
      (where-in y (names_of new.master)))
      (where-in x (names_of new.master))

  -- the ids of distinct names are distinct
  ids-distinct : (xs : List Name) → ((x : Name) → IsIn x xs → IsIn x (names_of (rows_of new))) → AreDistinct xs → AreDistinct (map (id_in same_name new) xs)
  ids-distinct xs f d = map-distinct (id_in same_name new) xs (λ x y i j e. id-same x y (f x i) (f y j) e) d

  master-there : (x : Name) → IsIn x (names_of new.master) → IsIn x (names_of (rows_of new))
  master-there x i = subst (IsIn x) (sym (map-append (λ r. r.name) new.master new.others)) (in-left x (names_of new.master) (names_of new.others) i)

  others-there : (x : Name) → IsIn x (names_of new.others) → IsIn x (names_of (rows_of new))
  others-there x i = subst (IsIn x) (sym (map-append (λ r. r.name) new.master new.others)) (in-right x (names_of new.master) (names_of new.others) i)

  pub master-from : (front rows : List (Row Name)) → new.master ≡ front ++ rows → IsHistory (names_of front) rows → AllFrom MayHave (length front) (parent_ids same_name new rows)
  master-from front [] e h = tt
  master-from front (r ∷ rows) e h =
      let names : names_of new.master ≡ names_of front ++ names_of (r ∷ rows) = ap names_of e ∙ map-append (λ q. q.name) front (r ∷ rows) in
      let in_front : (x : Name) → IsIn x r.parents → IsIn x (names_of front) = λ x i. in-all x r.parents (names_of front) i h.0.known in
      let in_master : (x : Name) → IsIn x r.parents → IsIn x (names_of new.master) = λ x i. subst (IsIn x) (sym names) (in-left x (names_of front) (names_of (r ∷ rows)) (in_front x i)) in (
        (
          all-map-in (id_in same_name new) (λ p. p < length front) r.parents
              (λ x i. subst (λ k. k < length front) (sym (id-master x (in_master x i) ∙ ap (place_of same_name x) names ∙ place-front x (names_of front) (names_of (r ∷ rows)) (in_front x i)))
              (subst (λ k. place_of same_name x (names_of front) < k) (names-length front) (place-below x (names_of front) (in_front x i)))),
          ids-distinct r.parents (λ x i. master-there x (in_master x i)) h.0.distinct,
          subst (λ n. n ≤ 8) (sym (length-map r.parents (id_in same_name new))) h.0.few,
        ),
        subst (λ n. AllFrom MayHave n (parent_ids same_name new rows)) (length-append front (r ∷ []))
            (master-from (front ++ r ∷ []) rows (e ∙ sym (append_assoc front (r ∷ []) rows)) (subst (λ l. IsHistory l rows) (sym (map-append (λ q. q.name) front (r ∷ []))) h.1)),
      )

  others-from : (front rows : List (Row Name)) → new.others ≡ front ++ rows → IsHistory (names_of new.master ++ names_of front) rows
      → AllFrom (OthersMayHave (length new.master)) (2 ^ 56 + length front) (parent_ids same_name new rows)
  others-from front [] e h = tt
  others-from front (r ∷ rows) e h =
      let names : names_of new.others ≡ names_of front ++ names_of (r ∷ rows) = ap names_of e ∙ map-append (λ q. q.name) front (r ∷ rows) in
      let known : (x : Name) → IsIn x r.parents → IsIn x (names_of new.master ++ names_of front) = λ x i. in-all x r.parents (names_of new.master ++ names_of front) i h.0.known in
      let stands : (x : Name) → IsIn x r.parents → IsIn x (names_of (rows_of new)) = λ x i. ⊎_elim (master-there x)
      (λ j. others-there x (subst (IsIn x) (sym names) (in-left x (names_of front) (names_of (r ∷ rows)) j))) (in-append x (names_of new.master) (names_of front) (known x i)) in
      let place : (x : Name) → IsIn x r.parents → (id_in same_name new x < length new.master) ⊎ ((2 ^ 56 ≤ id_in same_name new x) × (id_in same_name new x < 2 ^ 56 + length front)) =
      λ x i. ⊎_elim (λ a. inl (below-after x a))
      (λ a. let j : IsIn x (names_of front) = ⊎_elim (λ b. absurd (missing same_name same_name-exact same_name-self x (names_of new.master) a b)) (λ b. b) (in-append x (names_of new.master) (names_of front) (known x i)) in
      let at : id_in same_name new x ≡ 2 ^ 56 + place_of same_name x (names_of front) = id-other x a ∙ ap (λ l. 2 ^ 56 + place_of same_name x l) names ∙ ap (λ n. 2 ^ 56 + n) (place-front x (names_of front) (names_of (r ∷ rows)) j) in
      let lt : place_of same_name x (names_of front) < length front = subst (λ k. place_of same_name x (names_of front) < k) (names-length front) (place-below x (names_of front) j) in
      inr (subst (λ k. 2 ^ 56 ≤ k) (sym at) (omega arith), subst (λ k. k < 2 ^ 56 + length front) (sym at) (omega (arith, lt))))
      (where-in x (names_of new.master)) in (
        (
          (
            all-map-in (id_in same_name new) (λ p. p < 2 ^ 56 + length front) r.parents
                (λ x i. ⊎_elim (λ lt. let k = in-master (id_in same_name new x) (length new.master) lt (apart r.name (subst (IsIn r.name) (sym names) (in-right r.name (names_of front) (names_of (r ∷ rows)) (inl refl)))) in omega (arith, k)) (λ p. p.1) (place x i)),
            ids-distinct r.parents stands h.0.distinct,
            subst (λ n. n ≤ 8) (sym (length-map r.parents (id_in same_name new))) h.0.few,
          ),
          omega arith,
          all-map-in (id_in same_name new) (λ p. (p < length new.master) ⊎ ((2 ^ 56 ≤ p) × (p < 2 ^ 56 + length front))) r.parents place,
        ),
        subst (λ n. AllFrom (OthersMayHave (length new.master)) n (parent_ids same_name new rows))
            (let l = length-append front (r ∷ []) in let f : 2 ^ 56 + length (front ++ r ∷ []) ≡ 2 ^ 56 + length front + 1 = omega (arith, l) in f)
            (others-from (front ++ r ∷ []) rows (e ∙ sym (append_assoc front (r ∷ []) rows))
            (subst (λ l. IsHistory l rows) (append_assoc (names_of new.master) (names_of front) (r.name ∷ []) ∙ ap (λ l. names_of new.master ++ l) (sym (map-append (λ q. q.name) front (r ∷ [])))) h.1)),
      )

  -- flat segments with such parents have a spelling
  master-segment : length new.master ≤ 2 ^ 56 → (s : Span) → IsSpanOf MayHave (length new.master) s → IsSegment (flat_record s) × ((flat_record s).level ≡ 0)
  master-segment fits s h =
      let high : s.high < 2 ^ 56 = in-master s.high (length new.master) h.in_bounds fits in
      let up = h.up in
      let low : s.low < 2 ^ 56 = omega (arith, up, high) in (
        record {
          ascending = h.up;
          one_group = lt-ltb s.low (2 ^ 56) low ∙ sym (lt-ltb s.high (2 ^ 56) high);
          valid = (let k : 2 ^ 56 ≤ 2 ^ 57 = lit≤ tt in omega (arith, k, high));
          level = zero-le;
          below = h.own.0;
          distinct = h.own.1;
          level_parents = h.own.2;
        },
        refl,
      )

  others-segment : (n : ℕ) → n ≤ 65536 → (s : Span) → IsSpanOf (OthersMayHave (length new.master)) (2 ^ 56 + n) s → IsSegment (flat_record s) × ((flat_record s).level ≡ 0)
  others-segment n le s h =
      let bound = h.in_bounds in
      let up = h.up in
      let low : 2 ^ 56 ≤ s.low = h.own.1 in
      let high : 2 ^ 56 ≤ s.high = omega (arith, up, low) in (
        record {
          ascending = h.up;
          one_group = le-ltb s.low (2 ^ 56) low ∙ sym (le-ltb s.high (2 ^ 56) high);
          valid = (let k : 2 ^ 56 + 65536 ≤ 2 ^ 57 = lit≤ tt in omega (arith, k, bound, le));
          level = zero-le;
          below = h.own.0.0;
          distinct = h.own.0.1;
          level_parents = h.own.0.2;
        },
        refl,
      )

module _ (payloads : List Payload) (old new : World Name) (lawful : AreLawful [] payloads) (stand : StandFor payloads old) (was : IsWorld old) (named : IsNamedWorld new)
    (rest : List (Row Name)) (grown : new.master ≡ old.master ++ rest) (fits : length new.master ≤ 16777216) (few : length new.others ≤ 65536) (some : 0 < length (rows_of new)) where
  abbrev change : List (Row Name) → Payload
  change rows = record {
    version = 2;
    kind = 1;
    before = length old.master;
    after = length new.master;
    cloned = 0;
    levels = new_levels (flat_segments_of 0 (parent_ids same_name old old.master)) (flat_segments_of 0 (parent_ids same_name new new.master));
    master = map flat_record (flat_segments (length old.master) (parent_ids same_name new rows));
    known = known_from (length old.master) (names_of rows);
    heads = [];
    others = map flat_record (flat_segments (2 ^ 56) (parent_ids same_name new new.others));
    other_names = names_of new.others;
  }

  group : (x : Name) → IsIn x (names_of new.others) → length new.master ≤ 2 ^ 56
  group x i = within-group (length new.master) fits

  size : length new.master ≡ length old.master + length rest
  size = ap length grown ∙ length-append old.master rest

  history : IsHistory (names_of old.master) rest
  history = history-rest [] old.master rest (subst (IsHistory []) grown (history-front [] new.master new.others named.world))

  master-size : length old.master + length (parent_ids same_name new rest) ≡ length new.master
  master-size = let a = length-map rest (λ row. map (id_in same_name new) row.parents) in let b = size in omega (arith, a, b)

  others-size : 2 ^ 56 + length (parent_ids same_name new new.others) ≡ 2 ^ 56 + length (names_of new.others)
  others-size = ap (λ n. 2 ^ 56 + n) (length-map new.others (λ row. map (id_in same_name new) row.parents) ∙ sym (names-length new.others))

  others-few : length (names_of new.others) ≤ 65536
  others-few = subst (λ n. n ≤ 65536) (sym (names-length new.others)) few

  master-spans : AllByRecursion (IsSpanOf MayHave (length new.master)) (flat_segments (length old.master) (parent_ids same_name new rest))
  master-spans = flat-spans MayHave (length new.master) (length old.master) (parent_ids same_name new rest) master-size (master-from new group old.master rest grown history)

  others-spans : AllByRecursion (IsSpanOf (OthersMayHave (length new.master)) (2 ^ 56 + length (names_of new.others))) (flat_segments (2 ^ 56) (parent_ids same_name new new.others))
  others-spans = flat-spans (OthersMayHave (length new.master)) (2 ^ 56 + length (names_of new.others)) (2 ^ 56) (parent_ids same_name new new.others) others-size
      (others-from new group [] new.others refl
      (subst (λ l. IsHistory l new.others) (sym (append-nil (names_of new.master))) (history-rest [] new.master new.others named.world)))

  -- the whole new master group, and how it grew
  all-size : 0 + length (parent_ids same_name new new.master) ≡ length new.master
  all-size = let e = length-map new.master (λ (row : Row Name). map (id_in same_name new) row.parents) in omega (arith, e)

  all-spans : AllByRecursion (IsSpanOf MayHave (length new.master)) (flat_segments 0 (parent_ids same_name new new.master))
  all-spans = flat-spans MayHave (length new.master) 0 (parent_ids same_name new new.master) all-size
      (master-from new group [] new.master refl (history-front [] new.master new.others named.world))

  whole-master : IsWholeTo (flat_segments_of 0 (parent_ids same_name new new.master)) (length new.master)
  whole-master =
      subst (λ l. IsWholeTo l (length new.master)) (sym (same-segments 0 (parent_ids same_name new new.master)))
      (whole-flats (length new.master) (map flat_record (flat_segments 0 (parent_ids same_name new new.master)))
      (all-records (IsSpanOf MayHave (length new.master)) IsFlat (flat_segments 0 (parent_ids same_name new new.master))
      (λ s h. let f = master-segment new group (within-group (length new.master) fits) s h in record { segment = f.0; flat = f.1 }) all-spans)
      (record-cover 0 (length new.master) (flat_segments 0 (parent_ids same_name new new.master)) (flat-cover 0 (length new.master) (parent_ids same_name new new.master) all-size))
      (within-group (length new.master) fits))

  front-ids : parent_ids same_name new new.master ≡ parent_ids same_name old old.master ++ parent_ids same_name new rest
  front-ids =
      ap (parent_ids same_name new) grown ∙ map-append (λ (row : Row Name). map (id_in same_name new) row.parents) old.master rest
      ∙ ap (λ l. l ++ parent_ids same_name new rest)
      (rows-front new old (names_of rest) (ap names_of grown ∙ map-append (λ r. r.name) old.master rest) old.master (parents-known [] old.master (history-front [] old.master old.others was)))

  master-grows : Grows (flat_segments_of 0 (parent_ids same_name old old.master)) (flat_segments_of 0 (parent_ids same_name new new.master))
  master-grows = subst (λ l. Grows (flat_segments_of 0 (parent_ids same_name old old.master)) (flat_segments_of 0 l)) (sym front-ids)
      (flats-grow 0 (parent_ids same_name old old.master) (parent_ids same_name new rest))

  known-size : length old.master + length (names_of rest) ≡ length new.master
  known-size = let a = names-length rest in let b = size in omega (arith, a, b)

  rest-there : (x : Name) → IsIn x (names_of rest) → IsIn x (names_of (rows_of new))
  rest-there x i = master-there new group x (subst (IsIn x) (sym (ap names_of grown ∙ map-append (λ r. r.name) old.master rest)) (in-right x (names_of old.master) (names_of rest) i))

  payload : IsPayload (change rest)
  payload = record {
    format = record { version = inr refl; no_levels = λ e. absurd (eqb-false 2 1 refl e) };
    levels = record {
      each = new-each (flat_segments_of 0 (parent_ids same_name old old.master)) (flat_segments_of 0 (parent_ids same_name new new.master)) (length new.master) whole-master fits;
      ascend = new-ascend (flat_segments_of 0 (parent_ids same_name old old.master)) (flat_segments_of 0 (parent_ids same_name new new.master)) (length new.master) whole-master fits master-grows;
    };
    counts = record { grows = (let e = size in omega (arith, e)); master = fits; others = others-few };
    cover = record {
      flat_master = all-records (IsSpanOf MayHave (length new.master)) (λ s. IsSegment s × (s.level ≡ 0)) (flat_segments (length old.master) (parent_ids same_name new rest)) (master-segment new group (within-group (length new.master) fits)) master-spans;
      flat_others = all-records (IsSpanOf (OthersMayHave (length new.master)) (2 ^ 56 + length (names_of new.others))) (λ s. IsSegment s × (s.level ≡ 0)) (flat_segments (2 ^ 56) (parent_ids same_name new new.others))
          (others-segment new group (length (names_of new.others)) others-few) others-spans;
      master = record-cover (length old.master) (length new.master) (flat_segments (length old.master) (parent_ids same_name new rest)) (flat-cover (length old.master) (length new.master) (parent_ids same_name new rest) master-size);
      others = record-cover (2 ^ 56) (2 ^ 56 + length (names_of new.others)) (flat_segments (2 ^ 56) (parent_ids same_name new new.others)) (flat-cover (2 ^ 56) (2 ^ 56 + length (names_of new.others)) (parent_ids same_name new new.others) others-size);
    };
    parents = record {
      master = all-records (IsSpanOf MayHave (length new.master)) (λ s. AllByRecursion (λ q. q < s.low) s.parents) (flat_segments (length old.master) (parent_ids same_name new rest)) (λ s h. h.own.0) master-spans;
      others = all-records (IsSpanOf (OthersMayHave (length new.master)) (2 ^ 56 + length (names_of new.others))) (HasOthersParents (length new.master)) (flat_segments (2 ^ 56) (parent_ids same_name new new.others)) (λ s h. h.own.2) others-spans;
    };
    maximal = record {
      master = record-max (flat_segments (length old.master) (parent_ids same_name new rest)) (flat-max (length old.master) (length new.master) (parent_ids same_name new rest) master-size);
      others = record-max (flat_segments (2 ^ 56) (parent_ids same_name new new.others)) (flat-max (2 ^ 56) (2 ^ 56 + length (names_of new.others)) (parent_ids same_name new new.others) others-size);
    };
    known = record {
      ascend = ids-rise (length old.master) (names_of rest);
      within = ids-within (length old.master) (length old.master) (length new.master) (names_of rest) (le_refl _) known-size;
    };
    by_kind = inl (record {
      kind = refl;
      cloned = refl;
      all_known = λ id le lt. ids-in (length old.master) (names_of rest) id le (subst (λ n. id < n) (sym known-size) lt);
      no_heads = refl;
      something = some-rows (length new.master) (length (names_of new.others)) (subst (λ n. 0 < n) (length-append new.master new.others ∙ ap (λ n. length new.master + n) (sym (names-length new.others))) some);
    });
    heads_fit = lit< tt;
    names = subst (AllByRecursion IsName) (sym (names-known (length old.master) (names_of rest))) (all-each IsName (names_of rest) (λ x i. name-of new named x (rest-there x i)));
    head_names = tt;
    other_names = all-each IsName (names_of new.others) (λ x i. name-of new named x (others-there new group x i));
  }
    where
      some-rows : (a b : ℕ) → 0 < a + b → (0 < a) ⊎ (0 < b)
      some-rows zero b lt = inr (omega (arith, lt))
      some-rows (suc a) b lt = inl (zero-lt-suc a)

  -- the names of a known id are those of the old master, and the new ones are new
  names-apart : AreDistinct (names_of old.master ++ (names_of rest ++ names_of new.others))
  names-apart =
      let whole : AreDistinct (names_of (rows_of new)) = (history-distinct [] (rows_of new) named.world).0 in
      subst AreDistinct
      (map-append (λ r. r.name) new.master new.others
      ∙ ap (λ l. l ++ names_of new.others) (ap names_of grown ∙ map-append (λ r. r.name) old.master rest)
      ∙ append_assoc (names_of old.master) (names_of rest) (names_of new.others))
      whole

  distinct-names : AreDistinct (flat_map known_names (payloads ++ change rest ∷ []) ++ names_of new.others)
  distinct-names =
      let parts = distinct-parts (names_of old.master) (names_of rest ++ names_of new.others) names-apart in
      let before : AreDistinct (flat_map known_names payloads) = lawful-distinct [] payloads tt lawful in
      let old_name : (x : Name) → IsIn x (flat_map known_names payloads) → IsIn x (names_of old.master) = λ x i.
      let k = known-in payloads x i in
      subst (λ z. IsIn z (names_of old.master)) (sym k.2)
      (get-in (names_of old.master) k.0.id k.0.name (each (λ (q : Known). slice_get (names_of old.master) q.id ≡ Some q.name) (flat_map (λ p. p.known) payloads) stand.known k.0 k.1)) in
      subst AreDistinct
      (sym (ap (λ l. l ++ names_of new.others) (flat-snoc known_names payloads (change rest) ∙ ap (λ l. flat_map known_names payloads ++ l) (names-known (length old.master) (names_of rest)))
      ∙ append_assoc (flat_map known_names payloads) (names_of rest) (names_of new.others)))
      (distinct-join (flat_map known_names payloads) (names_of rest ++ names_of new.others) before parts.1 (λ x i j. parts.2 x (old_name x i) j))

  drop-rest : drop (length old.master) new.master ≡ rest
  drop-rest = ap (drop (length old.master)) grown ∙ drop_at old.master rest (length old.master) refl

  same-rest : flush_change old new ≡ change rest
  same-rest = same-change old new ∙ ap change drop-rest

  -- the master group with the change is that of the new world
  flats-now : master_flats (payloads ++ change rest ∷ []) ≡ flat_segments_of 0 (parent_ids same_name new new.master)
  flats-now = ap (flat_segments_of 0)
      (subst (λ p. parents_listed (flat_map (λ q. q.master) (payloads ++ p ∷ [])) ≡ parent_ids same_name new new.master) same-rest (change-stands payloads old new was stand (rest, grown)).master)

  follows : MayFollow payloads (change rest)
  follows = record {
    whole = payload;
    count = sym stand.count;
    version = versions-most [] payloads lawful;
    clone_first = λ e. absurd (eqb-false 1 2 refl e);
    clone_heads = λ e. absurd (eqb-false 1 2 refl e);
    whole_first = λ e. absurd (eqb-false 1 3 refl e);
    whole_heads = λ e. absurd (eqb-false 1 3 refl e);
    distinct = distinct-names;
    levels = λ _. sym (ap₂ new_levels (ap (flat_segments_of 0) stand.master) flats-now);
  }

  pub change-follows : MayFollow payloads (flush_change old new)
  change-follows = subst (MayFollow payloads) (sym same-rest) follows
