-- Levels of which the first ones are brought on already.
use Rattle.std.proofs.Common.{◌≡◌, ℕ, zero, suc, ◌+◌, ◌-◌, ◌<◌, ◌≤◌, ◌^◌, List, [], ◌∷◌, length, take, drop, get_or, slice_set, Some, None, refl, sym, subst, ap, ◌∙◌, arith, le_of_suc-le-suc, ⊎_elim}
use Rattle.std.specs.Prelude.{slice_get}
use Rattle.segment_codec.specs.Record.{Segment}
use Rattle.segment_codec.specs.Table.{segment_at}
use Rattle.segment_codec.proofs.Tables.{le_or_lt}
use Rattle.flat_segments.specs.Maximal.{begin_of}
use Rattle.segment_rules.specs.Levels.{level_segments, count_grouped}
use Rattle.segment_levels.specs.Kept.{PlainLevel, PlainGroups, IsLevelOf, AreLevelsAbove, segments_in}
use Rattle.segment_levels.specs.Sound.{HasFront, IsSound}
use Rattle.segment_levels.specs.Endings.{at_level, held_from}
use Rattle.segment_levels.proofs.Grouping.{count-most}
use Rattle.segment_levels.proofs.Leveled.{level-high, next-begin}
use Rattle.high_segments.specs.Growing.{AddsGroups, AllFront, AreBelow, AreMixed, HasFrom, IsLeft, IsRowFrom, KeepsRun, MayBecome, MayGrow, next_end_of}
use Rattle.high_segments.proofs.Growth.{sound, begins, counted, are-below, keeps-first, longer, few-more, level-now, left-now}
use Rattle.high_segments.proofs.Holding.{old-at, held-mixed, mixed-readable, grows-self}
use Rattle.high_segments.proofs.Keeping.{front-self, front-then}

-- ---- a level put in place of another

pub set-length : (levels : List PlainGroups) (k : ℕ) (x : PlainGroups) → length (slice_set levels k x) ≡ length levels
set-length [] k x = refl
set-length (l ∷ more) zero x = refl
set-length (l ∷ more) (suc k) x = ap suc (set-length more k x)

pub set-twice : (levels : List PlainGroups) (k : ℕ) (x y : PlainGroups) → slice_set (slice_set levels k x) k y ≡ slice_set levels k y
set-twice [] k x y = refl
set-twice (l ∷ more) zero x y = refl
set-twice (l ∷ more) (suc k) x y = ap (λ z. l ∷ z) (set-twice more k x y)

pub set-mixed : (old new : List Segment) (level k : ℕ) (levels : List PlainGroups) (x : PlainGroups) → AreMixed old new level k levels → k < length levels → IsLevelOf new (level + k) x → AreMixed old new level (suc k) (slice_set levels k x)
set-mixed old new level zero [] x h lt is = absurd (omega (arith, lt))
set-mixed old new level zero (l ∷ more) x h lt is =
    let same : level + 0 ≡ level = omega arith in (subst (λ n. IsLevelOf new n x) same is, h.1)
set-mixed old new level (suc k) [] x h lt is = absurd (omega (arith, lt))
set-mixed old new level (suc k) (l ∷ more) x h lt is =
    let same : level + suc k ≡ suc level + k = omega arith in
    (h.0, set-mixed old new (suc level) k more x h.1 (le_of_suc-le-suc lt) (subst (λ n. IsLevelOf new n x) same is))

pub all-front : (levels : List PlainGroups) → AllFront levels levels
all-front [] = tt
all-front (l ∷ more) = (front-self l, all-front more)

pub front-set : (old levels : List PlainGroups) (k : ℕ) (d x : PlainGroups) → AllFront old levels → k < length levels → HasFront (get_or levels k d) x → AllFront old (slice_set levels k x)
front-set [] [] k d x f lt h = absurd (omega (arith, lt))
front-set [] (l ∷ levels) k d x f lt h = absurd f
front-set (o ∷ old) [] k d x f lt h = absurd f
front-set (o ∷ old) (l ∷ levels) zero d x f lt h = (front-then o l x f.0 h, f.1)
front-set (o ∷ old) (l ∷ levels) (suc k) d x f lt h = (f.0, front-set old levels k d x f.1 (le_of_suc-le-suc lt) h)

pub fronts-then : (a b c : List PlainGroups) → AllFront a b → AllFront b c → AllFront a c
fronts-then [] [] [] f g = tt
fronts-then [] [] (z ∷ c) f g = absurd g
fronts-then [] (y ∷ b) c f g = absurd f
fronts-then (x ∷ a) [] c f g = absurd f
fronts-then (x ∷ a) (y ∷ b) [] f g = absurd g
fronts-then (x ∷ a) (y ∷ b) (z ∷ c) f g = (front-then x y z f.0 g.0, fronts-then a b c f.1 g.1)

pub front-length : (a b : List PlainGroups) → AllFront a b → length b ≡ length a
front-length [] [] f = refl
front-length [] (y ∷ b) f = absurd f
front-length (x ∷ a) [] f = absurd f
front-length (x ∷ a) (y ∷ b) f = ap suc (front-length a b f.1)

-- ---- where the next level ends

pub next-some : (levels : List PlainGroups) (k : ℕ) (next : PlainGroups) → suc k < length levels → next ≡ get_or levels (suc k) next → next_end_of levels k ≡ next.end
next-some [] k next lt e = absurd (omega (arith, lt))
next-some (l ∷ []) zero next lt e = absurd (omega (arith, lt))
next-some (l ∷ m ∷ more) zero next lt e = ap (λ (z : PlainGroups). z.end) (sym e)
next-some (l ∷ []) (suc k) next lt e = absurd (omega (arith, lt))
next-some (l ∷ m ∷ more) (suc k) next lt e = next-some (m ∷ more) k next (le_of_suc-le-suc lt) e

pub next-none : (levels : List PlainGroups) (k : ℕ) (last : PlainGroups) → k < length levels → length levels ≤ suc k → last ≡ get_or levels k last → next_end_of levels k ≡ last.end
next-none [] k last lt le e = absurd (omega (arith, lt))
next-none (l ∷ []) zero last lt le e = ap (λ (z : PlainGroups). z.end) (sym e)
next-none (l ∷ m ∷ more) zero last lt le e = absurd (omega (arith, le))
next-none (l ∷ []) (suc k) last lt le e = absurd (omega (arith, lt))
next-none (l ∷ m ∷ more) (suc k) last lt le e = next-none (m ∷ more) k last (le_of_suc-le-suc lt) (le_of_suc-le-suc le) e

-- from which segment of a level on none is in a group of the next
pub record StartsAt (old : List Segment) (level : ℕ) (levels : List PlainGroups) (k : ℕ) (l : PlainGroups) : Type 0 where
  pub from : ℕ
  pub within : from ≤ length (level_segments old (suc level))
  pub is : next_end_of levels k ≡ begin_of l.end (drop from (level_segments old (suc level)))
  pub grouped : suc k < length levels → from ≡ count_grouped 0 (level_segments old (suc level))

drop-all : (xs : List Segment) → drop (length xs) xs ≡ []
drop-all [] = refl
drop-all (x ∷ xs) = drop-all xs

pub starts-at : (old new : List Segment) (m : MayBecome old new) (level k : ℕ) (levels : List PlainGroups) → AreMixed old new level k levels → k < length levels
    → (l : PlainGroups) → IsLevelOf old (level + k) l → ((d : PlainGroups) → get_or levels k d ≡ l) → StartsAt old (level + k) levels k l
starts-at old new m level k levels h lt l is get =
    ⊎_elim
    (λ (le : length levels ≤ suc k).
    let xs = level_segments old (suc (level + k)) in
    record {
      from = length xs;
      within = omega arith;
      is = next-none levels k l lt le (sym (get l)) ∙ sym (ap (begin_of l.end) (drop-all xs));
      grouped = λ more. absurd (omega (arith, more, le));
    })
    (λ (more : suc k < length levels).
    let xs = level_segments old (suc (level + k)) in
    let n = next-at level k levels h more in
    record {
      from = count_grouped 0 xs;
      within = (count-most 0 xs (omega arith)).1;
      is = next-some levels k n.0 more (sym (n.2 n.0))
          ∙ next-begin old old m.old_end (grows-self old) m.old_end m.old_whole m.old_whole (suc (level + k)) n.0.end n.1.follow l.end is.follow;
      grouped = λ _. refl;
    })
    (le_or_lt (length levels) (suc k))
  where
    -- the level behind an old one is old
    next-at : (level k : ℕ) (levels : List PlainGroups) → AreMixed old new level k levels → suc k < length levels → (n : PlainGroups) × IsLevelOf old (suc (level + k)) n × ((d : PlainGroups) → get_or levels (suc k) d ≡ n)
    next-at level zero [] h lt = absurd (omega (arith, lt))
    next-at level zero (l ∷ []) h lt = absurd (omega (arith, lt))
    next-at level zero (l ∷ n ∷ more) h lt =
        let same : suc level ≡ suc (level + 0) = omega arith in (n, subst (λ j. IsLevelOf old j n) same h.1.0, λ d. refl)
    next-at level (suc k) [] h lt = absurd (omega (arith, lt))
    next-at level (suc k) (l ∷ more) h lt =
        let r = next-at (suc level) k more h.1 (le_of_suc-le-suc lt) in
        let same : suc (suc level + k) ≡ suc (level + suc k) = omega arith in (r.0, subst (λ j. IsLevelOf old j r.0) same r.1, r.2)

pub get-some : (levels : List PlainGroups) (k : ℕ) (l : PlainGroups) → k < length levels → l ≡ get_or levels k l → slice_get levels k ≡ Some l
get-some [] k l lt e = absurd (omega (arith, lt))
get-some (x ∷ xs) zero l lt e = ap (λ (z : PlainGroups). Some z) (sym e)
get-some (x ∷ xs) (suc k) l lt e = get-some xs k l (le_of_suc-le-suc lt) e

-- ---- one level is brought on

module _ (old new : List Segment) (below : PlainLevel) (k : ℕ) (levels : List PlainGroups) (g : MayGrow old new below k levels) (lt : k < length levels) (l : PlainGroups) (get : l ≡ get_or levels k l) where
  plus : 0 + k ≡ k
  plus = omega arith

  same-get : (d : PlainGroups) → get_or levels k d ≡ l
  same-get d = Rattle.std.proofs.lemmas.List.get_or_default levels k d l lt ∙ sym get

  pub level-is : IsLevelOf old k l
  level-is =
      let at = old-at old new 0 k levels g.levels_are lt in
      let same : at.l ≡ l = sym (at.get l) ∙ sym get in
      subst (λ n. IsLevelOf old n l) plus (subst (IsLevelOf old (0 + k)) same at.is)

  pub starts : StartsAt old k levels k l
  starts =
      let zero-is : k ≡ 0 + k = omega arith in
      let is = subst (λ n. IsLevelOf old n l) zero-is level-is in
      let s = starts-at old new g.may 0 k levels g.levels_are lt l is same-get in
      subst (λ n. StartsAt old n levels k l) plus s

  -- what is looked up
  pub has-from : HasFrom (take (suc k) levels) l (level_segments old (suc k)) starts.from (next_end_of levels k)
  has-from =
      let n = level-is.number in
      let up = λ (id : ℕ). held-mixed old new g.may 0 k levels g.levels_are lt id None (λ le. absurd (omega (arith, le))) in
      let number : suc (0 + k) ≡ l.level = omega (arith, n) in
      record {
        readable = mixed-readable old new g.may 0 k levels g.levels_are;
        held = λ id. ap (λ j. at_level j (held_from None (take (suc k) levels) id)) (sym number) ∙ up id ∙ ap (λ j. segment_at (level_segments old (suc j)) id) plus;
        follow = level-is.follow;
        numbers = λ s i. (level-high old g.may.old_end g.may.old_whole k s i).number ∙ sym level-is.number;
        within = starts.within;
        start_is = starts.is;
      }

  pub row-of : (run : PlainLevel)
      → ((top : PlainGroups) (segments : List Segment) (from : ℕ) → slice_get levels k ≡ Some top → HasFrom (take (k + 1) levels) top segments from (next_end_of levels k) → IsRowFrom top segments from run)
      → IsRowFrom l (level_segments old (suc k)) starts.from run
  row-of run f =
      let one : suc k ≡ k + 1 = omega arith in
      f l (level_segments old (suc k)) starts.from (get-some levels k l lt get) (subst (λ n. HasFrom (take n levels) l (level_segments old (suc k)) starts.from (next_end_of levels k)) one has-from)

  pub below-sound : IsSound below
  below-sound = sound old new g.may k below (g.left lt) l level-is

  pub begins-there : l.end ≡ begin_of below.end (segments_in below)
  begins-there = begins old new g.may k below (g.left lt) l level-is

  pub few-there : l.grouped + length below.entries < 2 ^ 64
  few-there = counted old new g.may k below (g.left lt) l level-is

  -- what follows of the row
  module _ (first run : PlainLevel) (kept : PlainGroups) (segments : segments_in first ≡ drop starts.from (level_segments old (suc k))) (level : first.level ≡ l.level) (end : first.end ≡ l.end) (grouped : first.grouped ≡ l.grouped)
      (adds : AddsGroups below 0 first run) (keeps : KeepsRun (take starts.from (level_segments old (suc k))) (level_segments new k) run kept) (count : kept.count ≡ l.count) where
    pub may-grow : MayGrow old new run (k + 1) (slice_set levels k (record kept { count = kept.count + (length run.entries - length first.entries) }))
    may-grow =
        let left = g.left lt in
        let now = level-now old new g.may k below left l level-is first starts.from starts.within segments level end grouped run adds kept keeps count in
        let x : PlainGroups = record kept { count = kept.count + (length run.entries - length first.entries) } in
        let one : suc k ≡ k + 1 = omega arith in
        let zero-is : k ≡ 0 + k = omega arith in
        let len = set-length levels k x in
        subst (λ n. MayGrow old new run n (slice_set levels k x)) one
        (record {
          may = g.may;
          levels_are = set-mixed old new 0 k levels x g.levels_are lt (subst (λ n. IsLevelOf new n x) zero-is now);
          left = λ more. left-now old new g.may k below left l level-is first starts.from starts.within segments level end grouped run adds (starts.grouped (omega (arith, more, len)));
        })

-- ---- the row as the code has it

module _ (old new : List Segment) (below : PlainLevel) (k : ℕ) (levels : List PlainGroups) (g : MayGrow old new below k levels) (lt : k < length levels) (l : PlainGroups) (get : l ≡ get_or levels k l)
    (first run : PlainLevel) (row : IsRowFrom l (level_segments old (suc k)) (starts old new below k levels g lt l get).from first) (adds : AddsGroups below 0 first run) where
  abbrev front : List Segment
  front = take (starts old new below k levels g lt l get).from (level_segments old (suc k))

  left-is : IsLeft old new k below
  left-is = g.left lt

  is-level : IsLevelOf old k l
  is-level = level-is old new below k levels g lt l get

  within : (starts old new below k levels g lt l get).from ≤ length (level_segments old (suc k))
  within = (starts old new below k levels g lt l get).within

  pub row-longer : length first.entries ≤ length run.entries
  row-longer = longer old new g.may k below left-is l is-level first (starts old new below k levels g lt l get).from within row.segments_are row.level row.end row.grouped run adds

  pub row-few : (kept : PlainGroups) (n : ℕ) → kept.count ≡ (get_or levels k l).count → n ≡ length run.entries - length first.entries → kept.count + n < 2 ^ 64
  row-few kept n count is =
      let few = few-more old new g.may k below left-is l is-level first (starts old new below k levels g lt l get).from within row.segments_are row.level row.end row.grouped run adds in
      let same = ap (λ (z : PlainGroups). z.count) get in omega (arith, few, count, is, same)

  pub row-grown : (kept now other : PlainGroups) (n : ℕ) → ((front belows : List Segment) → KeepsRun front belows first (get_or levels k l) → AreBelow first.level (segments_in below) belows → KeepsRun front belows run kept)
      → kept.count ≡ (get_or levels k l).count → n ≡ length run.entries - length first.entries
      → now ≡ record (get_or (slice_set levels k kept) k other) { count = (get_or (slice_set levels k kept) k other).count + n } → MayGrow old new run (k + 1) (slice_set (slice_set levels k kept) k now)
  row-grown kept now other n keeps count n-is now-is =
      let from = (starts old new below k levels g lt l get).from in
      let keeps-at = keeps-first old new g.may k below left-is l is-level first from within row.segments_are row.level row.end row.grouped in
      let number : suc k ≡ first.level = sym (row.level ∙ is-level.number) in
      let here = are-below old new g.may k below left-is l is-level in
      let kept-run = keeps front (level_segments new k) (subst (KeepsRun front (level_segments new k) first) get keeps-at) (subst (λ j. AreBelow j (segments_in below) (level_segments new k)) number here) in
      let counted : kept.count ≡ l.count = count ∙ ap (λ (z : PlainGroups). z.count) (sym get) in
      let same = Rattle.std.proofs.lemmas.List.get_or-set_same levels k kept other lt in
      let with = λ (z : PlainGroups) (m : ℕ). (let q : PlainGroups = record z { count = z.count + m } in q) in
      let is : now ≡ with kept (length run.entries - length first.entries) = now-is ∙ ap (λ (z : PlainGroups). with z n) same ∙ ap (with kept) n-is in
      subst (λ (z : List PlainGroups). MayGrow old new run (k + 1) z) (sym (set-twice levels k kept now ∙ ap (λ (z : PlainGroups). slice_set levels k z) is))
      (may-grow old new below k levels g lt l get first run kept row.segments_are row.level row.end row.grouped adds kept-run counted)

-- what was kept of the levels stands in front
pub row-front : (levels : List PlainGroups) (k : ℕ) (d kept now other : PlainGroups) (n : ℕ) → k < length levels → HasFront (get_or levels k d) kept
    → now ≡ record (get_or (slice_set levels k kept) k other) { count = (get_or (slice_set levels k kept) k other).count + n } → AllFront levels (slice_set (slice_set levels k kept) k now)
row-front levels k d kept now other n lt f is =
    let same = Rattle.std.proofs.lemmas.List.get_or-set_same levels k kept other lt in
    let with = λ (z : PlainGroups). (let q : PlainGroups = record z { count = z.count + n } in q) in
    let now-is : now ≡ with kept = is ∙ ap with same in
    subst (AllFront levels) (sym (set-twice levels k kept now))
    (front-set levels levels k d now (all-front levels) lt
    (subst (HasFront (get_or levels k d)) (sym now-is) (record { level = f.level; groups = f.groups; bytes = f.bytes; groups_are = f.groups_are; bytes_are = f.bytes_are })))

-- what is looked up of a level
pub row-held : (old new : List Segment) (below : PlainLevel) (k : ℕ) (levels : List PlainGroups) → MayGrow old new below k levels → k < length levels
    → (top : PlainGroups) × (segments : List Segment) × (from : ℕ) × (slice_get levels k ≡ Some top) × HasFrom (take (k + 1) levels) top segments from (next_end_of levels k)
row-held old new below k levels g lt =
    let at = old-at old new 0 k levels g.levels_are lt in
    let get = sym (at.get at.l) in
    let one : suc k ≡ k + 1 = omega arith in
    let from = (starts old new below k levels g lt at.l get).from in (
      at.l,
      level_segments old (suc k),
      from,
      get-some levels k at.l lt get,
      subst (λ n. HasFrom (take n levels) at.l (level_segments old (suc k)) from (next_end_of levels k)) one (has-from old new below k levels g lt at.l get),
    )

-- ---- all levels in turn

pub record GrownSoFar (flats : PlainLevel) (levels : List PlainGroups) (below : PlainLevel) (k : ℕ) (now : List PlainGroups) : Type 0 where
  pub goes : (old new : List Segment) → MayGrow old new flats 0 levels → MayGrow old new below k now
  pub front : AllFront levels now

pub grown-none : (flats : PlainLevel) (levels : List PlainGroups) → GrownSoFar flats levels flats 0 levels
grown-none flats levels = record { goes = λ old new g. g; front = all-front levels }

pub grown-more : (flats : PlainLevel) (levels : List PlainGroups) (below run : PlainLevel) (k : ℕ) (now next : List PlainGroups) → GrownSoFar flats levels below k now
    → ((old new : List Segment) → MayGrow old new below k now → MayGrow old new run (k + 1) next) → AllFront now next → GrownSoFar flats levels run (k + 1) next
grown-more flats levels below run k now next s g f = record { goes = λ old new h. g old new (s.goes old new h); front = fronts-then levels now next s.front f }

pub grown-all : (flats : PlainLevel) (levels : List PlainGroups) (below : PlainLevel) (k : ℕ) (now : List PlainGroups) → GrownSoFar flats levels below k now → length now ≤ k → k ≤ length now
    → (old new : List Segment) → MayGrow old new flats 0 levels → AreLevelsAbove new 0 now
grown-all flats levels below k now s le ge old new h = Rattle.high_segments.proofs.Holding.mixed-whole old new 0 k now (s.goes old new h).levels_are (omega (arith, le, ge))
