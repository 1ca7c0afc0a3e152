-- Which segments of a row have a child close behind.
use Rattle.std.proofs.Common.{◌≡◌, ℕ, zero, suc, ◌+◌, ◌-◌, ◌<◌, ◌≤◌, Bool, true, false, ◌||◌, List, [], ◌∷◌, length, take, drop, get_or, replicate, true≢false, Some, refl, sym, subst, ap, ◌∙◌, arith, le_of_suc-le-suc, ⊎_elim}
use Rattle.std.specs.Prelude.{slice_get, nat_eq}
use Rattle.std.specs.List.{list_any}
use Rattle.std.proofs.lemmas.List.{get_or_default, length-replicate}
use Rattle.id_groups.specs.Lists.{is_in, IsIn}
use Rattle.segment_codec.specs.Record.{Segment}
use Rattle.segment_codec.specs.Table.{Follow}
use Rattle.segment_codec.proofs.Numbers.{some_is}
use Rattle.segment_codec.proofs.Tables.{follow-within, le_or_lt}
use Rattle.segment_rules.specs.Levels.{group_size}
use Rattle.segment_levels.specs.Kept.{PlainLevel, segments_in}
use Rattle.segment_levels.specs.Sound.{IsSound}
use Rattle.high_segments.specs.Noting.{AreNoted, HasNoChild, Notes}
use Rattle.high_segments.proofs.Places.{segments-length}
use Rattle.high_segments.proofs.Scanning.{alone-at, child-none}

-- ---- highest ids rise

get-in : (xs : List Segment) (at : ℕ) (s : Segment) → slice_get xs at ≡ Some s → IsIn s xs
get-in [] at s e = absurd cc
get-in (x ∷ xs) zero s e = Rattle.std.proofs.Common.inl (sym (some_is x s e))
get-in (x ∷ xs) (suc at) s e = Rattle.std.proofs.Common.inr (get-in xs at s e)

follow-rises : (first end : ℕ) (xs : List Segment) → Follow first end xs → (i j : ℕ) (s t : Segment) → slice_get xs i ≡ Some s → slice_get xs j ≡ Some t → i < j → s.high < t.high
follow-rises first end [] h i j s t e f lt = absurd cc
follow-rises first end (x ∷ xs) h i zero s t e f lt = absurd (omega (arith, lt))
follow-rises first end (x ∷ xs) h zero (suc j) s t e f lt =
    let w = follow-within (x.high + 1) end xs h.2 t (get-in xs j t f) in let a = w.0 in let b = w.1 in
    let same = ap (λ (z : Segment). z.high) (some_is x s e) in omega (arith, a, b, same)
follow-rises first end (x ∷ xs) h (suc i) (suc j) s t e f lt = follow-rises (x.high + 1) end xs h.2 i j s t e f (le_of_suc-le-suc lt)

pub some-at : (xs : List Segment) (k : ℕ) → k < length xs → (t : Segment) × (slice_get xs k ≡ Some t)
some-at [] k lt = absurd (omega (arith, lt))
some-at (x ∷ xs) zero lt = (x, refl)
some-at (x ∷ xs) (suc k) lt = some-at xs k (le_of_suc-le-suc lt)

module _ (below : PlainLevel) (sound : IsSound below) where
  pub rises : (i j : ℕ) (s t : Segment) → slice_get (segments_in below) i ≡ Some s → slice_get (segments_in below) j ≡ Some t → i < j → s.high < t.high
  rises i j s t e f lt = follow-rises sound.first below.end (segments_in below) sound.follow i j s t e f lt

  pub rises-not : (i j : ℕ) (s t : Segment) → slice_get (segments_in below) i ≡ Some s → slice_get (segments_in below) j ≡ Some t → i ≤ j → s.high ≤ t.high
  rises-not i j s t e f le =
      ⊎_elim
      (λ (ge : j ≤ i). let same : i ≡ j = omega (arith, le, ge) in let eq = ap (λ (z : Segment). z.high) (some_is s t (sym e ∙ ap (slice_get (segments_in below)) same ∙ f)) in omega (arith, eq))
      (λ (lt : i < j). let r = rises i j s t e f lt in omega (arith, r))
      (le_or_lt j i)

  -- no two end at one id
  pub one-place : (i j : ℕ) (s t : Segment) → slice_get (segments_in below) i ≡ Some s → slice_get (segments_in below) j ≡ Some t → s.high ≡ t.high → i ≡ j
  one-place i j s t e f same =
      ⊎_elim
      (λ (ge : j ≤ i). ⊎_elim (λ (le : i ≤ j). let z : i ≡ j = omega (arith, le, ge) in z) (λ (lt : j < i). absurd (let r = rises j i t s f e lt in omega (arith, r, same))) (le_or_lt i j))
      (λ (lt : i < j). absurd (let r = rises i j s t e f lt in omega (arith, r, same)))
      (le_or_lt j i)

-- ---- notes

-- no parent more
pub notes-all : (xs : List Segment) (place : ℕ) (note : List Bool) → Notes xs place [] note note
notes-all xs place note = record { count = refl; stay = λ at e. e; noted = λ at s e get before within. refl }

pub notes-then : (xs : List Segment) (place id : ℕ) (ids : List ℕ) (a b c : List Bool) → Notes xs place (id ∷ []) a b → Notes xs place ids b c → Notes xs place (id ∷ ids) a c
notes-then xs place id ids a b c f g = record {
  count = g.count ∙ f.count;
  stay = λ at e. f.stay at (g.stay at e);
  noted = λ at s e get before within. both (nat_eq s.high id) (is_in nat_eq s.high ids) (f.noted at s (g.stay at e) get before within) (g.noted at s e get before within);
}
  where
    both : (p q : Bool) → (p || false) ≡ false → q ≡ false → (p || q) ≡ false
    both true q e f = absurd (let g : true ≡ false = e in cc)
    both false q e f = f

-- ---- one segment more

pub noted-none : (xs : List Segment) (note : List Bool) → length note ≡ length xs → AreNoted xs 0 note
noted-none xs note len = record { length_is = len; others = λ at e s t child get behind lt le before. absurd (omega (arith, before)) }

pub noted-more : (xs : List Segment) (k : ℕ) (old new : List Bool) → AreNoted xs k old → (s : Segment) → slice_get xs k ≡ Some s → Notes xs k s.parents old new → AreNoted xs (k + 1) new
noted-more xs k old new noted s get notes = record {
  length_is = notes.count ∙ noted.length_is;
  others = λ at e q t child first behind lt le before.
      ⊎_elim
      (λ (last : k ≤ child).
      let is : child ≡ k = omega (arith, last, before) in
      let same : s ≡ t = some_is s t (sym get ∙ ap (slice_get xs) (sym is) ∙ behind) in
      ap (λ (z : Segment). is_in nat_eq q.high z.parents) (sym same) ∙ notes.noted at q e first (omega (arith, lt, is)) (omega (arith, le, is)))
      (λ (early : child < k).
      noted.others at (notes.stay at e) q t child first behind lt le early)
      (le_or_lt k child);
}

-- ---- what the note says of the fifteen behind a segment

-- as far as the segments go, none of those behind it has it as a parent
pub none-next : (xs : List Segment) (from : ℕ) (s : Segment) → slice_get xs from ≡ Some s → HasNoChild xs (length xs) from → (k : ℕ) → k ≤ 15 → from + 1 + k ≤ length xs
    → list_any (λ (t : Segment). is_in nat_eq s.high t.parents) (take k (drop (from + 1) xs)) ≡ false
none-next xs from s get none zero le room = first (drop (from + 1) xs)
  where
    first : (xs : List Segment) → list_any (λ (t : Segment). is_in nat_eq s.high t.parents) (take 0 xs) ≡ false
    first [] = refl
    first (x ∷ xs) = refl
none-next xs from s get none (suc k) le room =
    let t = some-at xs (from + 1 + k) (omega (arith, room)) in
    let here = none s t.0 (from + 1 + k) get t.1 (omega arith) (omega (arith, le)) (omega (arith, room)) in
    let one : k + 1 ≡ suc k = omega arith in
    ap (λ n. list_any (λ (t : Segment). is_in nat_eq s.high t.parents) (take n (drop (from + 1) xs))) (sym one)
    ∙ child-none s.high (from + 1) k xs t.0 t.1 (none-next xs from s get none k (omega (arith, le)) (omega (arith, room))) here

pub none-behind : (xs : List Segment) (from : ℕ) (s : Segment) → slice_get xs from ≡ Some s → HasNoChild xs (length xs) from → from + 16 ≤ length xs
    → list_any (λ (t : Segment). is_in nat_eq s.high t.parents) (take 15 (drop (from + 1) xs)) ≡ false
none-behind xs from s get none room = none-next xs from s get none 15 (omega arith) (omega (arith, room))

-- ---- the loops

-- from a place on, before another, none ends at the id
pub record SoughtDown (xs : List Segment) (to id place : ℕ) : Type 0 where
  pub within : place ≤ to
  pub none : (at : ℕ) (s : Segment) → slice_get xs at ≡ Some s → place ≤ at → at < to → s.high ≡ id → ⊥

-- nor at the place before
pub sought-more : (xs : List Segment) (to id place from : ℕ) → SoughtDown xs to id place → from < place → ((s : Segment) → slice_get xs (place - 1) ≡ Some s → s.high ≡ id → ⊥) → SoughtDown xs to id (place - 1)
sought-more xs to id place from h some here = record {
  within = let within = h.within in omega (arith, within);
  none = λ at s get le lt same.
      ⊎_elim
      (λ (far : place ≤ at). h.none at s get far lt same)
      (λ (near : at < place). let is : at ≡ place - 1 = omega (arith, le, near) in here s (ap (slice_get xs) (sym is) ∙ get) same)
      (le_or_lt place at);
}

-- with the parents that are left noted too, all of the segment are
pub record NotesSoFar (xs : List Segment) (place : ℕ) (parents left : List ℕ) (old now : List Bool) : Type 0 where
  pub count : length now ≡ length old
  pub goes : (new : List Bool) → Notes xs place left now new → Notes xs place parents old new

pub notes-begin : (xs : List Segment) (place : ℕ) (parents left : List ℕ) (note : List Bool) → left ≡ parents → NotesSoFar xs place parents left note note
notes-begin xs place parents left note is = record { count = refl; goes = λ new n. subst (λ z. Notes xs place z note new) is n }

pub notes-next : (xs : List Segment) (place : ℕ) (parents left rest : List ℕ) (id n : ℕ) (old mid now : List Bool) → NotesSoFar xs place parents left old mid → left ≡ id ∷ rest → n ≡ id → Notes xs place (n ∷ []) mid now
    → NotesSoFar xs place parents rest old now
notes-next xs place parents left rest id n old mid now h is same notes =
    let one : Notes xs place (id ∷ []) mid now = subst (λ (z : ℕ). Notes xs place (z ∷ []) mid now) same notes in
    record {
      count = notes.count ∙ h.count;
      goes = λ new g. h.goes new (subst (λ (z : List ℕ). Notes xs place z mid new) (sym is) (notes-then xs place id rest mid now new one g));
    }

pub notes-end : (xs : List Segment) (place : ℕ) (parents left : List ℕ) (old now : List Bool) → NotesSoFar xs place parents left old now → left ≡ [] → Notes xs place parents old now
notes-end xs place parents left old now h is = h.goes now (subst (λ (z : List ℕ). Notes xs place z now now) (sym is) (notes-all xs place now))

-- ---- where nothing ends at the id

module _ (below : PlainLevel) (sound : IsSound below) where
  -- the first one ends above it
  pub none-low : (from id n : ℕ) (s : Segment) → slice_get (segments_in below) from ≡ Some s → n ≡ s.high → id < n → (place : ℕ) (t : Segment) → slice_get (segments_in below) place ≡ Some t → from ≤ place → t.high ≡ id → ⊥
  none-low from id n s get is lt place t here le same = let r = rises-not below sound from place s t get here le in omega (arith, r, is, lt, same)

  -- one ends below it, and none behind that at it
  pub none-lower : (to id at n : ℕ) (s : Segment) → slice_get (segments_in below) (at - 1) ≡ Some s → n ≡ s.high → n < id → SoughtDown (segments_in below) to id at
      → (place : ℕ) (t : Segment) → slice_get (segments_in below) place ≡ Some t → place < to → t.high ≡ id → ⊥
  none-lower to id at n s get is lt h place t here before same =
      ⊎_elim
      (λ (far : at ≤ place). h.none place t here far before same)
      (λ (near : place < at). let r = rises-not below sound place (at - 1) t s here get (omega (arith, near)) in omega (arith, r, is, lt, same))
      (le_or_lt at place)

-- a segment that isn't noted is a group of its own
pub alone-noted : (below : PlainLevel) (note : List Bool) (from : ℕ) → AreNoted (segments_in below) (length below.entries) note → from + 16 ≤ length below.entries → get_or note from false ≡ false
    → 1 ≡ group_size 16 (drop from (segments_in below))
alone-noted below note from noted room none =
    let xs = segments_in below in
    let len = segments-length below in
    let s = some-at xs from (omega (arith, len, room)) in
    let long = noted.length_is in
    let here : get_or note from true ≡ false = get_or_default note from true false (omega (arith, long, len, room)) ∙ none in
    let child = subst (λ (n : ℕ). HasNoChild xs n from) (sym len) (noted.others from here) in
    alone-at xs from s.0.high s.0 (omega (arith, len, room)) s.1 refl (none-behind xs from s.0 s.1 child (omega (arith, len, room)))

-- ---- where each is noted

all-true : (n at : ℕ) → get_or (replicate n true) at true ≡ true
all-true zero at = refl
all-true (suc n) zero = refl
all-true (suc n) (suc at) = all-true n at

-- no segment is noted to have none
pub all-noted : (below : PlainLevel) (count : ℕ) (note : List Bool) → note ≡ replicate count true → count ≡ length below.entries → AreNoted (segments_in below) (length below.entries) note
all-noted below count note is many =
    let len = segments-length below in let n = length-replicate count true in
    subst (AreNoted (segments_in below) (length below.entries)) (sym is)
    (record { length_is = omega (arith, len, n, many); others = λ at e. absurd (true≢false (sym (all-true count at) ∙ e)) })
