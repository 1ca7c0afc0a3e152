-- The clone data that are made of a master group are those of its world.
use Rattle.std.proofs.Common.{◌≡◌, ℕ, zero, suc, ◌+◌, ◌<◌, ◌≤◌, ◌^◌, ◌⊎◌, Bool, true, false, not, cond, ◌||◌, inl, inr, List, [], ◌∷◌, ◌++◌, Some, length, map, flat_map, filter, take, get_or, refl, sym, ap, ap₂, subst, ◌∙◌, arith, nat_eq, ⊎_elim}
use Rattle.std.specs.Prelude.{slice_get, slice_index_or}
use Rattle.std.specs.Option.{option_map}
use Rattle.std.specs.List.{AllByRecursion, range_with_len}
use Rattle.std.proofs.lemmas.List.{map-append, take_more}
use Rattle.std.proofs.lemmas.List.Elements.{filter-append, filter_map-append}
use Rattle.id_groups.specs.Lists.{IsIn, is_in}
use Rattle.id_groups.specs.Name.{Name, same_name}
use Rattle.commit_graph.specs.World.{Row}
use Rattle.commit_graph.specs.Ids.{parent_ids}
use Rattle.segment_codec.specs.Record.{Segment}
use Rattle.segment_codec.specs.Table.{Follow, IsLawful}
use Rattle.segment_codec.proofs.Tables.{follow-ends}
use Rattle.segment_rules.specs.Flat.{flat_segments_of}
use Rattle.remote_rules.specs.CloneData.{CloneData, KnownName, head_ids, merge_parents}
use Rattle.remote_rules.specs.Known.{master_world}
use Rattle.remote_rules.specs.Honest.{clone_data_of, named_ids, stored_ids, master_segments}
use Rattle.remote_answers.specs.Master.{IsMasterIn}
use Rattle.remote_answers.specs.Marks.{AreMarks, IsWithin, stored_by}
use Rattle.remote_answers.proofs.Marking.{filter-same, range-under, range-more, in-stored, high-within}

-- ---- segments

-- the first segments, up to the first one that begins at the count or above it, are those of the master ids
pub cut-masters : (first count end : ℕ) (masters others : List Segment) (k : ℕ) → Follow first count masters → Follow (2 ^ 56) end others → count ≤ 2 ^ 56
    → AllByRecursion (λ (s : Segment). s.low < count) (take k (masters ++ others))
    → (length (masters ++ others) ≤ k) ⊎ ((s : Segment) × (slice_get (masters ++ others) k ≡ Some s) × (count ≤ s.low)) → take k (masters ++ others) ≡ masters
cut-masters first count end [] [] zero f g le all last = refl
cut-masters first count end [] [] (suc k) f g le all last = refl
cut-masters first count end [] (t ∷ others) zero f g le all last = refl
cut-masters first count end [] (t ∷ others) (suc k) f g le all last = let low = g.0 in let lt = all.0 in absurd (omega (arith, low, lt, le))
cut-masters first count end (s ∷ more) others zero f g le all (inl none) = absurd (omega (arith, none))
cut-masters first count end (s ∷ more) others zero f g le all (inr t) =
    let same : s ≡ t.0 = cc t.1 in
    let low = f.0 in let high = f.1 in let last = follow-ends (s.high + 1) count more f.2 in
    let over = subst (λ (z : Segment). count ≤ z.low) (sym same) t.2 in absurd (omega (arith, low, high, last, over))
cut-masters first count end (s ∷ more) others (suc k) f g le all last =
    ap (λ l. s ∷ l) (cut-masters (s.high + 1) count end more others k f.2 g le all.1 (⊎_elim (λ n. inl (omega (arith, n))) (λ t. inr t) last))

pub all-more : (P : Segment → Type 0) (xs : List Segment) (k : ℕ) (s : Segment) → AllByRecursion P (take k xs) → slice_get xs k ≡ Some s → P s → AllByRecursion P (take (k + 1) xs)
all-more P [] zero s h e p = cc
all-more P [] (suc k) s h e p = cc
all-more P (x ∷ xs) zero s h e p = let same : x ≡ s = cc e in (subst P (sym same) p, tt)
all-more P (x ∷ xs) (suc k) s h e p = subst (λ n. AllByRecursion P (take n (x ∷ xs))) (let z : suc (k + 1) ≡ suc k + 1 = omega arith in z) (h.0, all-more P xs k s h.1 e p)

-- ---- names

pub named-join : (rows : List (Row Name)) (xs ys : List ℕ) → named_ids (master_world rows) (xs ++ ys) ≡ named_ids (master_world rows) xs ++ named_ids (master_world rows) ys
named-join rows xs ys = filter_map-append (λ id. option_map (λ (row : Row Name). record { id = id; name = row.name }) (slice_get rows id)) xs ys

-- the names of one id more that is tested
pub names-more : (rows : List (Row Name)) (f : ℕ → Bool) (k : ℕ) → named_ids (master_world rows) (filter f (range_with_len 0 (k + 1)))
    ≡ named_ids (master_world rows) (filter f (range_with_len 0 k)) ++ named_ids (master_world rows) (cond (f k) (k ∷ []) [])
names-more rows f k =
    ap (λ l. named_ids (master_world rows) (filter f l)) (range-more 0 k ∙ ap (λ n. range_with_len 0 k ++ n ∷ []) (let e : 0 + k ≡ k = omega arith in e))
    ∙ ap (named_ids (master_world rows)) (filter-append f (range_with_len 0 k) (k ∷ []))
    ∙ named-join rows (filter f (range_with_len 0 k)) (cond (f k) (k ∷ []) [])

-- the heads of one id more
pub heads-more : (rows : List (Row Name)) (f : ℕ → Bool) (ids : List ℕ) (i : ℕ) → i < length ids
    → map (λ (k : KnownName). k.name) (named_ids (master_world rows) (filter f (take (i + 1) ids)))
    ≡ map (λ (k : KnownName). k.name) (named_ids (master_world rows) (filter f (take i ids))) ++ map (λ (k : KnownName). k.name) (named_ids (master_world rows) (cond (f (get_or ids i 0)) (get_or ids i 0 ∷ []) []))
heads-more rows f ids i lt =
    ap (λ l. map (λ (k : KnownName). k.name) (named_ids (master_world rows) (filter f l))) (take_more ids i 0 lt)
    ∙ ap (λ l. map (λ (k : KnownName). k.name) (named_ids (master_world rows) l)) (filter-append f (take i ids) (get_or ids i 0 ∷ []))
    ∙ ap (map (λ (k : KnownName). k.name)) (named-join rows (filter f (take i ids)) (cond (f (get_or ids i 0)) (get_or ids i 0 ∷ []) []))
    ∙ map-append (λ (k : KnownName). k.name) (named_ids (master_world rows) (filter f (take i ids))) (named_ids (master_world rows) (cond (f (get_or ids i 0)) (get_or ids i 0 ∷ []) []))

turned-cond : (b : Bool) (id : ℕ) → cond b [] (id ∷ []) ≡ cond (not b) (id ∷ []) []
turned-cond true id = refl
turned-cond false id = refl

pub head-turned : (rows : List (Row Name)) (b : Bool) (id : ℕ) → map (λ (k : KnownName). k.name) (named_ids (master_world rows) (cond b [] (id ∷ []))) ≡ map (λ (k : KnownName). k.name) (named_ids (master_world rows) (cond (not b) (id ∷ []) []))
head-turned rows b id = ap (λ l. map (λ (k : KnownName). k.name) (named_ids (master_world rows) l)) (turned-cond b id)

-- ---- the places of segments

pub at-place : (P : Segment → Type 0) (xs : List Segment) (i : ℕ) (s : Segment) → AllByRecursion P xs → slice_get xs i ≡ Some s → P s
at-place P [] i s h e = cc
at-place P (x ∷ xs) zero s h e = let same : x ≡ s = cc e in subst P same h.0
at-place P (x ∷ xs) (suc i) s h e = at-place P xs i s h.1 e

pub place-in : (xs : List Segment) (i : ℕ) (s : Segment) → slice_get xs i ≡ Some s → IsIn s xs
place-in [] i s e = cc
place-in (x ∷ xs) zero s e = let same : x ≡ s = cc e in inl (sym same)
place-in (x ∷ xs) (suc i) s e = inr (place-in xs i s e)

high-at : (xs : List Segment) (i : ℕ) (s : Segment) → slice_get xs i ≡ Some s → s.high ≡ get_or (map (λ (t : Segment). t.high) xs) i 0
high-at [] i s e = cc
high-at (x ∷ xs) zero s e = let same : x ≡ s = cc e in ap (λ (t : Segment). t.high) (sym same)
high-at (x ∷ xs) (suc i) s e = high-at xs i s e

high-place : (xs : List Segment) (i : ℕ) (s : Segment) → slice_get xs i ≡ Some s → i < length (map (λ (t : Segment). t.high) xs)
high-place [] i s e = cc
high-place (x ∷ xs) zero s e = omega arith
high-place (x ∷ xs) (suc i) s e = let r = high-place xs i s e in omega (arith, r)

-- the heads of one segment more
pub heads-step : (rows : List (Row Name)) (parents : List Bool) (segments : List Segment) (i : ℕ) (s : Segment) (at id : ℕ) (old new : List Name) → slice_get segments i ≡ Some s → at ≡ s.high → id ≡ at
    → old ≡ map (λ (k : KnownName). k.name) (named_ids (master_world rows) (filter (λ k. not (slice_index_or parents k false)) (take i (map (λ (t : Segment). t.high) segments))))
    → new ≡ old ++ map (λ (k : KnownName). k.name) (named_ids (master_world rows) (cond (slice_index_or parents at false) [] (id ∷ [])))
    → new ≡ map (λ (k : KnownName). k.name) (named_ids (master_world rows) (filter (λ k. not (slice_index_or parents k false)) (take (i + 1) (map (λ (t : Segment). t.high) segments))))
heads-step rows parents segments i s at id old new e high is before more =
    let name = λ (k : KnownName). k.name in
    more
    ∙ ap₂ (λ a b. a ++ b) before
    (ap (λ z. map (λ (k : KnownName). k.name) (named_ids (master_world rows) (cond (slice_index_or parents at false) [] (z ∷ [])))) is
    ∙ head-turned rows (slice_index_or parents at false) at
    ∙ ap (λ z. map (λ (k : KnownName). k.name) (named_ids (master_world rows) (cond (not (slice_index_or parents z false)) (z ∷ []) []))) (high ∙ high-at segments i s e))
    ∙ sym (heads-more rows (λ k. not (slice_index_or parents k false)) (map (λ (t : Segment). t.high) segments) i (high-place segments i s e))

-- the names of one id more
pub names-step : (rows : List (Row Name)) (stored : List Bool) (place id : ℕ) (old new : List KnownName) → id ≡ place
    → old ≡ named_ids (master_world rows) (filter (λ k. slice_index_or stored k false) (range_with_len 0 place))
    → new ≡ old ++ named_ids (master_world rows) (cond (slice_index_or stored place false) (id ∷ []) [])
    → new ≡ named_ids (master_world rows) (filter (λ k. slice_index_or stored k false) (range_with_len 0 (place + 1)))
names-step rows stored place id old new is before more =
    more
    ∙ ap₂ (λ a b. a ++ b) before (ap (λ z. named_ids (master_world rows) (cond (slice_index_or stored place false) (z ∷ []) [])) is)
    ∙ sym (names-more rows (λ k. slice_index_or stored k false) place)

all-below : (n : ℕ) (ps : List ℕ) (low : ℕ) → AllByRecursion (λ p. p < low) ps → low < n → AllByRecursion (λ p. p < n) ps
all-below n [] low h lt = tt
all-below n (p ∷ ps) low h lt = let a = h.0 in (omega (arith, a, lt), all-below n ps low h.1 lt)

follow-under : (n first : ℕ) (masters : List Segment) → Follow first n masters → ((s : Segment) → IsIn s masters → AllByRecursion (λ p. p < s.low) s.parents) → AllByRecursion (IsWithin n) masters
follow-under n first [] f below = tt
follow-under n first (s ∷ more) f below =
    let low = f.1 in let is = f.0 in let last = follow-ends (s.high + 1) n more f.2 in
    ((omega (arith, last), all-below n s.parents s.low (below s (inl refl)) (omega (arith, low, last, is))), follow-under n (s.high + 1) more f.2 (λ t i. below t (inr i)))

in-front : (s : Segment) (xs ys : List Segment) → IsIn s xs → IsIn s (xs ++ ys)
in-front s [] ys i = absurd i
in-front s (x ∷ xs) ys (inl e) = inl e
in-front s (x ∷ xs) ys (inr i) = inr (in-front s xs ys i)

pub highs-within : (n : ℕ) (segments : List Segment) → AllByRecursion (IsWithin n) segments → AllByRecursion (λ (s : Segment). s.high < n) segments
highs-within n [] h = tt
highs-within n (s ∷ more) h = (h.0.0, highs-within n more h.1)

-- each master segment's ids are rows'
pub masters-within : (flats : List Segment) → IsLawful flats → (rows : List (Row Name)) (m : IsMasterIn flats rows) → AllByRecursion (IsWithin (length rows)) m.masters
masters-within flats lawful rows m = follow-under (length rows) 0 m.masters m.follow (λ s i. (lawful.each s (subst (IsIn s) (sym m.parts) (in-front s m.masters m.others i))).segment.below)

-- ---- the whole

whole : (a b c : CloneData) → a.segments ≡ c.segments → a.names ≡ c.names → a.heads ≡ c.heads → a ≡ c
whole a b c e f g =
    ap (λ s. record { segments = s; names = a.names; heads = a.heads }) e
    ∙ ap (λ n. record { segments = c.segments; names = n; heads = a.heads }) f
    ∙ ap (λ h. record { segments = c.segments; names = c.names; heads = h }) g

module _ (rows : List (Row Name)) (segments : List Segment) (are : segments ≡ flat_segments_of 0 (parent_ids same_name (master_world rows) rows)) (within : AllByRecursion (IsWithin (length rows)) segments) where
  pub stored-are : (marks : List Bool) → AreMarks (length rows) (flat_map stored_by segments) marks
      → filter (λ id. slice_index_or marks id false) (range_with_len 0 (length marks)) ≡ stored_ids (master_world rows)
  stored-are marks m =
      filter-same (λ id. slice_index_or marks id false) (λ id. is_in nat_eq id (map (λ (s : Segment). s.high) segments) || is_in nat_eq id (flat_map (λ (s : Segment). merge_parents s.parents) segments)) (range_with_len 0 (length marks))
      (λ id i. let r = (range-under 0 (length marks) id i).1 in let s = m.size in m.each id (omega (arith, r, s)) ∙ in-stored id segments)
      ∙ ap₂ (λ (l : List Segment) n. filter (λ id. is_in nat_eq id (map (λ (s : Segment). s.high) l) || is_in nat_eq id (flat_map (λ (s : Segment). merge_parents s.parents) l)) (range_with_len 0 n)) are m.size

  pub heads-are : (marks : List Bool) → AreMarks (length rows) (flat_map (λ (s : Segment). s.parents) segments) marks
      → filter (λ id. not (slice_index_or marks id false)) (map (λ (s : Segment). s.high) segments) ≡ head_ids (master_segments (master_world rows))
  heads-are marks m =
      filter-same (λ id. not (slice_index_or marks id false)) (λ id. not (is_in nat_eq id (flat_map (λ (s : Segment). s.parents) segments))) (map (λ (s : Segment). s.high) segments)
      (λ id i. ap not (m.each id (high-within (length rows) segments within id i)))
      ∙ ap head_ids are

  pub cloned-is : (given : CloneData) (stored parents : List Bool) → given.segments ≡ segments → AreMarks (length rows) (flat_map stored_by segments) stored
      → AreMarks (length rows) (flat_map (λ (s : Segment). s.parents) segments) parents
      → given.names ≡ named_ids (master_world rows) (filter (λ id. slice_index_or stored id false) (range_with_len 0 (length stored)))
      → given.heads ≡ map (λ (k : KnownName). k.name) (named_ids (master_world rows) (filter (λ id. not (slice_index_or parents id false)) (map (λ (s : Segment). s.high) segments)))
      → given ≡ clone_data_of (master_world rows)
  cloned-is given stored parents e ms mp names heads = whole given given (clone_data_of (master_world rows))
      (e ∙ are)
      (names ∙ ap (named_ids (master_world rows)) (stored-are stored ms))
      (heads ∙ ap (λ l. map (λ (k : KnownName). k.name) (named_ids (master_world rows) l)) (heads-are parents mp))
