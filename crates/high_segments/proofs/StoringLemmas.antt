-- The records of the segments that came since levels had less.
use Rattle.std.proofs.Common.{◌≡◌, ℕ, zero, suc, ◌+◌, ◌<◌, ◌≤◌, ◌^◌, List, [], ◌∷◌, ◌++◌, length, take, drop, get_or, Some, None, refl, sym, subst, ap, ◌∙◌, arith, lit≤, le_of_suc-le-suc, append_assoc}
use Rattle.std.specs.Prelude.{slice_get, flat_map}
use Rattle.std.specs.List.{AllByRecursion, range_with_len}
use Rattle.std.proofs.lemmas.Grind.{flat_map-append}
use Rattle.std.proofs.lemmas.List.{append-nil, length-append, length-drop}
use Rattle.id_groups.specs.Lists.{IsIn}
use Rattle.segment_codec.specs.Record.{Segment, IsSegment, segment_bytes}
use Rattle.segment_codec.specs.Table.{Follow, segment_at}
use Rattle.segment_codec.proofs.Numbers.{some_is}
use Rattle.flat_segments.specs.Maximal.{begin_of}
use Rattle.flat_segments.proofs.Rising.{follow-begin}
use Rattle.segment_rules.specs.Levels.{level_segments, top_level}
use Rattle.segment_rules.specs.NewLevels.{new_levels}
use Rattle.segment_levels.specs.Kept.{PlainLevel, PlainGroups, IsLevelOf, AreLevelsAbove, segments_in}
use Rattle.segment_levels.specs.Sound.{IsSound}
use Rattle.segment_levels.specs.Endings.{at_level, held_from}
use Rattle.segment_levels.proofs.Ascending.{all-from-in}
use Rattle.segment_levels.proofs.Coming.{new-behind}
use Rattle.segment_levels.proofs.Heading.{follow-drop, in-drop}
use Rattle.segment_levels.proofs.Leveled.{level-grows, level-high, high-segment, leveled, one-end}
use Rattle.high_segments.specs.Growing.{AreMarks, IsRowFrom, IsMarkOf}
use Rattle.high_segments.specs.Storing.{HasNewAt, CameSince}
use Rattle.high_segments.specs.declared.kept.Mark.{Mark}
use Rattle.high_segments.proofs.Holding.{become-self, held-mixed, mixed-readable, whole-mixed}

-- ---- a row is written one record after another

take-none : {X : Type 0} (xs : List X) → take 0 xs ≡ []
take-none [] = refl
take-none (x ∷ xs) = refl

take-next : {X : Type 0} (xs : List X) (k : ℕ) (x : X) → slice_get xs k ≡ Some x → take (suc k) xs ≡ take k xs ++ x ∷ []
take-next [] k x e = absurd cc
take-next (y ∷ ys) zero x e = ap (λ z. y ∷ z) (take-none ys) ∙ ap (λ z. z ∷ []) (some_is y x e)
take-next (y ∷ ys) (suc k) x e = ap (λ z. y ∷ z) (take-next ys k x e)

pub row-next : (out now front : List ℕ) (segments : List Segment) (k : ℕ) (s : Segment) → slice_get segments k ≡ Some s
    → out ≡ front ++ flat_map segment_bytes (take k segments) → now ≡ out ++ segment_bytes s → now ≡ front ++ flat_map segment_bytes (take (k + 1) segments)
row-next out now front segments k s at e is =
    let one : suc k ≡ k + 1 = omega arith in
    is ∙ ap (λ z. z ++ segment_bytes s) e ∙ append_assoc front (flat_map segment_bytes (take k segments)) (segment_bytes s)
    ∙ ap (λ z. front ++ z)
    (ap (λ z. flat_map segment_bytes (take k segments) ++ z) (sym (append-nil (segment_bytes s)))
    ∙ sym (ap (flat_map segment_bytes) (take-next segments k s at) ∙ flat_map-append segment_bytes (take k segments) (s ∷ [])))
    ∙ ap (λ n. front ++ flat_map segment_bytes (take n segments)) one

take-all : {X : Type 0} (xs : List X) (n : ℕ) → length xs ≤ n → take n xs ≡ xs
take-all [] zero le = refl
take-all [] (suc n) le = refl
take-all (x ∷ xs) zero le = absurd (omega (arith, le))
take-all (x ∷ xs) (suc n) le = ap (λ z. x ∷ z) (take-all xs n (le_of_suc-le-suc le))

pub row-done : (out front : List ℕ) (segments : List Segment) (k : ℕ) → length segments ≤ k → out ≡ front ++ flat_map segment_bytes (take k segments) → out ≡ front ++ flat_map segment_bytes segments
row-done out front segments k le e = e ∙ ap (λ z. front ++ flat_map segment_bytes z) (take-all segments k le)

pub all-at : {X : Type 0} (P : X → Type 0) (xs : List X) (k : ℕ) (x : X) → AllByRecursion P xs → slice_get xs k ≡ Some x → P x
all-at P [] k x h e = absurd cc
all-at P (y ∷ ys) zero x h e = subst P (some_is y x e) h.0
all-at P (y ∷ ys) (suc k) x h e = all-at P ys k x h.1 e

-- ---- the row of a level

pub record NewRow (segments : List Segment) (from : ℕ) (run : PlainLevel) : Type 0 where
  pub sound : IsSound run
  pub spelled : AllByRecursion IsSegment (segments_in run)
  pub are : segments_in run ≡ drop from segments

pub new-row : (levels : List PlainGroups) (k : ℕ) (segments : List Segment) (from start : ℕ) (h : HasNewAt levels k segments from start) (run : PlainLevel) → IsRowFrom h.top segments from run → NewRow segments from run
new-row levels k segments from start h run row =
    let each : (s : Segment) → IsIn s (segments_in run) → IsSegment s = λ s i. h.spelled s (in-drop from segments s (subst (λ z. IsIn s z) row.segments_are i)) in
    let end = row.end in let small = h.small in
    record {
      sound = record {
        read = row.read;
        first = begin_of h.top.end (drop from segments);
        follow = subst (λ n. Follow (begin_of h.top.end (drop from segments)) n (segments_in run)) (sym row.end)
            (subst (Follow (begin_of h.top.end (drop from segments)) h.top.end) (sym row.segments_are) (follow-drop 0 h.top.end from segments h.from_there.within h.from_there.follow));
        below = all-from-in (λ s. AllByRecursion (λ p. p < s.low) s.parents) (segments_in run) (λ s i. (each s i).below);
        small = omega (arith, end, small);
      };
      spelled = all-from-in IsSegment (segments_in run) each;
      are = row.segments_are;
    }

-- ---- the levels one behind the other

-- the new segments of so many levels
abbrev pub new_up_to : List Segment → List Segment → ℕ → List Segment
new_up_to old new n = flat_map (λ level. drop (length (level_segments old level)) (level_segments new level)) (range_with_len 1 n)

range-next : (a n : ℕ) → range_with_len a (suc n) ≡ range_with_len a n ++ (a + n) ∷ []
range-next a zero = let same : a ≡ a + 0 = omega arith in ap (λ k. k ∷ []) same
range-next a (suc n) =
    let same : a + 1 + n ≡ a + suc n = omega arith in
    ap (λ z. a ∷ z) (range-next (a + 1) n ∙ ap (λ k. range_with_len (a + 1) n ++ k ∷ []) same)

pub up-to-next : (old new : List Segment) (n : ℕ) → new_up_to old new (suc n) ≡ new_up_to old new n ++ drop (length (level_segments old (suc n))) (level_segments new (suc n))
up-to-next old new n =
    let f = λ (level : ℕ). drop (length (level_segments old level)) (level_segments new level) in
    let same : 1 + n ≡ suc n = omega arith in
    ap (flat_map f) (range-next 1 n) ∙ flat_map-append f (range_with_len 1 n) ((1 + n) ∷ [])
    ∙ ap (λ z. flat_map f (range_with_len 1 n) ++ z) (append-nil (f (1 + n)) ∙ ap f same)

-- a level of a list of levels
pub record LevelAt (flats : List Segment) (levels : List PlainGroups) (level k : ℕ) : Type 0 where
  pub l : PlainGroups
  pub at : slice_get levels k ≡ Some l
  pub is : IsLevelOf flats (level + k) l

pub level-at : (flats : List Segment) (level k : ℕ) (levels : List PlainGroups) → AreLevelsAbove flats level levels → k < length levels → LevelAt flats levels level k
level-at flats level k [] h lt = absurd (omega (arith, lt))
level-at flats level zero (l ∷ more) h lt =
    let same : level ≡ level + 0 = omega arith in record { l = l; at = refl; is = subst (λ n. IsLevelOf flats n l) same h.0 }
level-at flats level (suc k) (l ∷ more) h lt =
    let r = level-at flats (suc level) k more h.1 (le_of_suc-le-suc lt) in
    let same : suc level + k ≡ level + suc k = omega arith in
    record { l = r.l; at = r.at; is = subst (λ n. IsLevelOf flats n r.l) same r.is }

pub levels-length : (flats : List Segment) (level : ℕ) (levels : List PlainGroups) → AreLevelsAbove flats level levels → level + length levels ≡ 7
levels-length flats level [] h = let e : level ≡ 7 = h in omega (arith, e)
levels-length flats level (l ∷ more) h = let r = levels-length flats (suc level) more h.1 in omega (arith, r)

pub marks-length : (marks : List Mark) (levels : List PlainGroups) → AreMarks marks levels → length marks ≡ length levels
marks-length [] [] h = refl
marks-length [] (l ∷ levels) h = absurd h
marks-length (m ∷ marks) [] h = absurd h
marks-length (m ∷ marks) (l ∷ levels) h = ap suc (marks-length marks levels h.1)

mark-at : (marks : List Mark) (levels : List PlainGroups) (k : ℕ) (l : PlainGroups) (m : Mark) → AreMarks marks levels → slice_get levels k ≡ Some l → m ≡ get_or marks k m → IsMarkOf m l
mark-at marks [] k l m h e g = absurd cc
mark-at [] (x ∷ levels) k l m h e g = absurd h
mark-at (n ∷ marks) (x ∷ levels) zero l m h e g = subst (λ q. IsMarkOf q l) (sym g) (subst (IsMarkOf n) (some_is x l e) h.0)
mark-at (n ∷ marks) (x ∷ levels) (suc k) l m h e g = mark-at marks levels k l m h.1 e g

-- where the first part of a run ends the second begins
seam : (first middle end : ℕ) (front back : List Segment) → Follow first middle front → Follow first end (front ++ back) → middle ≡ begin_of end back
seam first middle end [] back f g = sym f ∙ sym (follow-begin first end back g)
seam first middle end (s ∷ front) back f g = seam (s.high + 1) middle end front back f.2 g.2

drop-front : {X : Type 0} (xs ys : List X) → drop (length xs) (xs ++ ys) ≡ ys
drop-front [] [] = refl
drop-front [] (y ∷ ys) = refl
drop-front (x ∷ xs) ys = drop-front xs ys

pub in-marks : (marks : List Mark) (levels : List PlainGroups) (old new : List Segment) → CameSince marks levels old new → (k : ℕ) → k < length levels → k < length marks
in-marks marks levels old new c k lt =
    let a = levels-length old 0 c.before c.old_levels in let b = levels-length new 0 levels c.new_levels in let d = marks-length marks c.before c.marks_of in
    omega (arith, a, b, d, lt)

pub seven : (marks : List Mark) (levels : List PlainGroups) (old new : List Segment) → CameSince marks levels old new → length levels ≡ 7
seven marks levels old new c = let b = levels-length new 0 levels c.new_levels in omega (arith, b)

module _ (marks : List Mark) (levels : List PlainGroups) (old new : List Segment) (c : CameSince marks levels old new) (k : ℕ) (lt : k < length levels) (m : Mark) (get : m ≡ get_or marks k m) where
  plus : 0 + k ≡ k
  plus = omega arith

  now-at : LevelAt new levels 0 k
  now-at = level-at new 0 k levels c.new_levels lt

  lengths : k < length c.before
  lengths = let a = levels-length old 0 c.before c.old_levels in let b = levels-length new 0 levels c.new_levels in omega (arith, a, b, lt)

  was-at : LevelAt old c.before 0 k
  was-at = level-at old 0 k c.before c.old_levels lengths

  now-is : IsLevelOf new k now-at.l
  now-is = subst (λ n. IsLevelOf new n now-at.l) plus now-at.is

  was-is : IsLevelOf old k was-at.l
  was-is = subst (λ n. IsLevelOf old n was-at.l) plus was-at.is

  grown : (more : List Segment) × (level_segments new (suc k) ≡ level_segments old (suc k) ++ more)
  grown = level-grows old new c.may.grows (suc k)

  start : m.end ≡ begin_of now-at.l.end (drop (length (level_segments old (suc k))) (level_segments new (suc k)))
  start =
      (mark-at marks c.before k was-at.l m c.marks_of was-at.at get).end
      ∙ seam 0 was-at.l.end now-at.l.end (level_segments old (suc k)) grown.0 was-is.follow (subst (Follow 0 now-at.l.end) grown.1 now-is.follow)
      ∙ ap (begin_of now-at.l.end) (sym (ap (drop (length (level_segments old (suc k)))) grown.1 ∙ drop-front (level_segments old (suc k)) grown.0))

  held : (id : ℕ) → at_level now-at.l.level (held_from None (take (k + 1) levels) id) ≡ segment_at (level_segments new (suc k)) id
  held id =
      let one : suc k ≡ k + 1 = omega arith in
      let whole = whole-mixed new 0 k levels c.new_levels (omega (arith, lt)) in
      let r = held-mixed new new (become-self old new c.may) 0 k levels whole lt id None (λ le. absurd (omega (arith, le))) in
      subst (λ n. at_level now-at.l.level (held_from None (take n levels) id) ≡ segment_at (level_segments new (suc k)) id) one
      (ap (λ n. at_level n (held_from None (take (suc k) levels) id)) now-is.number
      ∙ subst (λ n. at_level (suc n) (held_from None (take (suc k) levels) id) ≡ segment_at (level_segments new (suc n)) id) plus r)

  few-there : suc k ≤ 7
  few-there = let b = levels-length new 0 levels c.new_levels in omega (arith, b, lt)

  pub new-at : HasNewAt levels k (level_segments new (suc k)) (length (level_segments old (suc k))) m.end
  new-at =
      let w = c.may.new_whole in
      let at = leveled new c.may.new_end w (suc k) in
      let ends = one-end 0 now-at.l.end at.last (level_segments new (suc k)) now-is.follow at.follow in
      let within = at.within in let small = c.may.small in let wide : 16777216 ≤ 2 ^ 56 = lit≤ tt in
      let one : suc k ≡ k + 1 = omega arith in
      let long = ap length grown.1 ∙ length-append (level_segments old (suc k)) grown.0 in
      record {
        top = now-at.l;
        at = now-at.at;
        from_there = record {
          readable = subst (λ n. Rattle.high_segments.specs.Growing.AreReadable (take n levels)) one
              (mixed-readable new new (become-self old new c.may) 0 k levels (whole-mixed new 0 k levels c.new_levels (omega (arith, lt))));
          held = held;
          follow = now-is.follow;
          numbers = λ s i. (level-high new c.may.new_end w k s i).number ∙ sym now-is.number;
          within = omega (arith, long);
          start_is = start;
        };
        spelled = λ s i. high-segment new c.may.new_end k s (level-high new c.may.new_end w k s i) few-there c.may.small;
        small = omega (arith, ends, within, small, wide);
      }

  many-of : (first end : ℕ) (xs : List Segment) → Follow first end xs → first + length xs ≤ end
  many-of first end [] f = let e : first ≡ end = f in omega (arith, e)
  many-of first end (s ∷ xs) f = let a = f.1 in let r = many-of (s.high + 1) end xs f.2 in omega (arith, a, r)

  pub few : length (drop (length (level_segments old (suc k))) (level_segments new (suc k))) ≤ 16777216
  few =
      let at = leveled new c.may.new_end c.may.new_whole (suc k) in
      let n = many-of 0 at.last (level_segments new (suc k)) at.follow in
      let d = length-drop (length (level_segments old (suc k))) (level_segments new (suc k)) in
      let within = at.within in let small = c.may.small in
      omega (arith, n, d, within, small)

  pub now-written : (out now front : List ℕ) → out ≡ front ++ flat_map segment_bytes (new_up_to old new k)
      → now ≡ out ++ flat_map segment_bytes (drop (length (level_segments old (suc k))) (level_segments new (suc k))) → now ≡ front ++ flat_map segment_bytes (new_up_to old new (k + 1))
  now-written out now front e is =
      let one : suc k ≡ k + 1 = omega arith in
      let behind = drop (length (level_segments old (suc k))) (level_segments new (suc k)) in
      is ∙ ap (λ z. z ++ flat_map segment_bytes behind) e ∙ append_assoc front (flat_map segment_bytes (new_up_to old new k)) (flat_map segment_bytes behind)
      ∙ ap (λ z. front ++ z) (sym (flat_map-append segment_bytes (new_up_to old new k) behind) ∙ ap (flat_map segment_bytes) (sym (up-to-next old new k)))
      ∙ ap (λ n. front ++ flat_map segment_bytes (new_up_to old new n)) one

  pub now-counted : (count size : ℕ) → count ≡ length (new_up_to old new k) → size ≡ length (drop (length (level_segments old (suc k))) (level_segments new (suc k))) → count + size ≡ length (new_up_to old new (k + 1))
  now-counted count size e is =
      let one : suc k ≡ k + 1 = omega arith in
      let behind = drop (length (level_segments old (suc k))) (level_segments new (suc k)) in
      let both = ap length (up-to-next old new k) ∙ length-append (new_up_to old new k) behind in
      subst (λ n. count + size ≡ length (new_up_to old new n)) one (omega (arith, e, is, both))

-- all levels
pub all-new : (marks : List Mark) (levels : List PlainGroups) (old new : List Segment) → CameSince marks levels old new → (n : ℕ) → n ≡ length levels → new_up_to old new n ≡ new_levels old new
all-new marks levels old new c n e =
    let a = levels-length new 0 levels c.new_levels in
    let same : n ≡ top_level = omega (arith, a, e) in
    ap (new_up_to old new) same ∙ sym (new-behind old new c.may.new_end c.may.new_whole c.may.grows)
