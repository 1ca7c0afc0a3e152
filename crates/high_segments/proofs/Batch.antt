-- The records of a batch extend a whole master group.
use Rattle.std.proofs.Common.{◌≡◌, ℕ, zero, suc, ◌+◌, ◌-◌, ◌<◌, ◌≤◌, ◌^◌, inl, true, not, List, [], ◌∷◌, ◌++◌, length, map, take, drop, get_or, refl, sym, subst, ap, ◌∙◌, arith, lit≤}
use Rattle.std.specs.Prelude.{filter}
use Rattle.std.specs.List.{list_all, AllByRecursion}
use Rattle.std.proofs.lemmas.List.{append-nil, length-append, length-take, length-drop, take-append-le, take-append-drop, drop-drop, length-map}
use Rattle.std.proofs.lemmas.List.Elements.{filter-append}
use Rattle.id_groups.specs.Lists.{IsIn}
use Rattle.segment_codec.specs.Record.{Segment}
use Rattle.segment_codec.specs.Table.{Follow, IsLawful}
use Rattle.segment_codec.specs.Flat.{IsFlat}
use Rattle.segment_codec.specs.Turns.{goes_on, StandInTurn, place_behind}
use Rattle.segment_codec.proofs.Flats.{parts-lawful, follow-append}
use Rattle.segment_codec.proofs.Tables.{all-pass, follow-ends, follow-within}
use Rattle.segment_codec.proofs.Turns.{begins-there, turn-follow}
use Rattle.flat_segments.specs.Kept.{KeptFlats as FlatKept, IsTableOf}
use Rattle.flat_segments.specs.Maximal.{begin_of, up_to, maximal}
use Rattle.flat_segments.specs.Placed.{PlacedSegment, segments_of, MasterMayStandAt}
use Rattle.flat_segments.specs.Runs.{is_read}
use Rattle.flat_segments.proofs.Adding.{all-append}
use Rattle.flat_segments.proofs.Cutting.{all-filter, rise-filter, up_to-flat}
use Rattle.flat_segments.proofs.Graphs.{maximal-ids}
use Rattle.flat_segments.proofs.Rising.{follow-rise}
use Rattle.flat_segments.proofs.Standing.{all-segments}
use Rattle.segment_rules.specs.Levels.{complete, count_grouped}
use Rattle.segment_levels.specs.Kept.{KeptLevels, PlainLevel, PlainGroups, segments_in, AreLevelsAbove}
use Rattle.segment_levels.specs.Whole.{IsWholeTo, Grows}
use Rattle.high_segments.specs.Growing.{MayGrow, MayBecome}
use Rattle.high_segments.specs.Extending.{MayGrowBy, MayExtendLevels, begun, begins_in, firsts}
use Rattle.segment_levels.specs.Flats.{flats_of, extended}
use Rattle.high_segments.proofs.Groups.{up_to-append}
use Rattle.segment_levels.proofs.Grouping.{count-most}
use Rattle.segment_levels.proofs.Heading.{follow-take}
use Rattle.high_segments.proofs.Rests.{up_to-length}
use Rattle.high_segments.proofs.Places.{segments-length}

-- ---- whole groups

pub whole-of : (end : ℕ) (segments : List Segment) → AllByRecursion IsFlat segments → Follow 0 end segments → end ≤ 2 ^ 56 → IsWholeTo (maximal end segments) end
whole-of end segments flat h le =
    let ids = maximal-ids end segments flat h in
    let begins = λ (s : Segment). not (goes_on s) in
    let each = up_to-flat end (filter begins segments) (all-filter IsFlat begins segments flat) (rise-filter begins end segments (follow-rise 0 end segments h)) le in
    record {
      lawful = subst IsLawful (append-nil (maximal end segments))
          (parts-lawful end 0 (maximal end segments) []
          (record {
            room = le;
            master_ids = ids;
            other_ids = refl;
            each = λ s i.
                let j : IsIn s (maximal end segments) = subst (λ (z : List Segment). IsIn s z) (append-nil (maximal end segments)) i in
                let f : IsFlat s = all-pass IsFlat (maximal end segments) each s j in
                let w = follow-within 0 end (maximal end segments) ids s j in
                let order = w.1 in let high = w.2 in
                record { flat = f; parents = λ p k. let lt : p < s.low = all-pass (λ q. q < s.low) s.parents f.segment.below p k in inl (omega (arith, lt, order, high)) };
          }));
      follow = ids;
    }

pub table-whole : (table : FlatKept) (records : List PlacedSegment) → IsTableOf table records → IsWholeTo (flats_of table records) table.end
table-whole table records is = whole-of table.end (segments_of records) (all-segments records is.flat) is.in_turn is.master

stand-flat : (first place : ℕ) (segments : List Segment) → StandInTurn (MasterMayStandAt first) place segments → AllByRecursion IsFlat segments
stand-flat first place [] h = tt
stand-flat first place (s ∷ more) h = (record { segment = h.0.0.segment; flat = h.0.0.flat }, stand-flat first (s.high + 1) more h.1)

pub all-level : (segments : List Segment) → AllByRecursion IsFlat segments → AllByRecursion (λ (s : Segment). s.level ≡ 0) segments
all-level [] h = tt
all-level (s ∷ more) h = (h.0.flat, all-level more h.1)

module _ (table : FlatKept) (bytes records : List ℕ) (before : List PlacedSegment) (segments : List Segment) (f : MayGrowBy table bytes records before segments) where
  pub added-flat : AllByRecursion IsFlat segments
  added-flat = stand-flat table.end table.end segments f.in_turn

  added-follow : Follow 0 (place_behind table.end segments) (segments_of before ++ segments)
  added-follow =
      follow-append 0 table.end (place_behind table.end segments) (segments_of before) segments f.table_of.in_turn
      (turn-follow (MasterMayStandAt table.end) (λ place s may. begins-there table.end place s may.0) table.end segments f.in_turn)

  pub new-whole : IsWholeTo (extended table before segments) (place_behind table.end segments)
  new-whole =
      let small = f.small in let wide : 16777216 ≤ 2 ^ 56 = lit≤ tt in
      whole-of (place_behind table.end segments) (segments_of before ++ segments) (all-append IsFlat (segments_of before) segments (all-segments before f.table_of.flat) added-flat) added-follow (omega (arith, small, wide))

  -- what is maximal of both
  pub new-parts : extended table before segments ≡ up_to (place_behind table.end segments) (firsts (segments_of before) ++ firsts segments)
  new-parts = ap (up_to (place_behind table.end segments)) (filter-append (λ (s : Segment). not (goes_on s)) (segments_of before) segments)

-- ---- what is complete stays

take-up_to : (k end other : ℕ) (xs : List Segment) → k < length xs → take k (up_to end xs) ≡ take k (up_to other xs)
take-up_to zero end other [] lt = refl
take-up_to zero end other (x ∷ xs) lt = refl
take-up_to (suc k) end other [] lt = refl
take-up_to (suc k) end other (x ∷ []) lt = absurd (omega (arith, lt))
take-up_to (suc k) end other (x ∷ y ∷ xs) lt = ap (λ z. record x { high = y.low - 1 } ∷ z) (take-up_to k end other (y ∷ xs) (omega (arith, lt)))

take-take : {X : Type 0} (m n : ℕ) (xs : List X) → m ≤ n → take m (take n xs) ≡ take m xs
take-take zero zero [] le = refl
take-take zero zero (x ∷ xs) le = refl
take-take zero (suc n) [] le = refl
take-take zero (suc n) (x ∷ xs) le = refl
take-take (suc m) zero xs le = absurd (omega (arith, le))
take-take (suc m) (suc n) [] le = refl
take-take (suc m) (suc n) (x ∷ xs) le = ap (λ z. x ∷ z) (take-take m n xs (omega (arith, le)))

pub grows-of : (end other : ℕ) (xs ys : List Segment) → Grows (up_to end xs) (up_to other (xs ++ ys))
grows-of end other xs ys =
    let old = up_to end xs in
    let new = up_to other (xs ++ ys) in
    let n = length old - 1 in
    let len-old = up_to-length end xs in
    let len-new = up_to-length other (xs ++ ys) in
    let sum = length-append xs ys in
    let le : length old - 1 ≤ length new - 1 = omega (arith, len-old, len-new, sum) in
    record {
      more = drop n (complete new);
      is = sym (take-append-drop n (complete new)) ∙ ap (λ z. z ++ drop n (complete new))
          (take-take n (length new - 1) new le ∙ front end other xs ys);
    }
  where
    front : (end other : ℕ) (xs ys : List Segment) → take (length (up_to end xs) - 1) (up_to other (xs ++ ys)) ≡ complete (up_to end xs)
    front end other [] ys = none (up_to other ys)
      where
        none : (zs : List Segment) → take (0 - 1) zs ≡ take (0 - 1) []
        none [] = refl
        none (z ∷ zs) = refl
    front end other (x ∷ xs) ys =
        let len = up_to-length end (x ∷ xs) in
        let lt : length (up_to end (x ∷ xs)) - 1 < length (x ∷ xs) = omega (arith, len) in
        let len2 = up_to-length (begin_of other ys) (x ∷ xs) in
        ap (take (length (up_to end (x ∷ xs)) - 1)) (up_to-append other (x ∷ xs) ys)
        ∙ take-append-le (length (up_to end (x ∷ xs)) - 1) (up_to (begin_of other ys) (x ∷ xs)) (up_to other ys) (omega (arith, len2, lt))
        ∙ take-up_to (length (up_to end (x ∷ xs)) - 1) (begin_of other ys) end (x ∷ xs) lt

-- ---- what is left of the flat segments

begun-up_to : (end : ℕ) (xs : List Segment) → up_to end (map begun xs) ≡ up_to end xs
begun-up_to end [] = refl
begun-up_to end (x ∷ xs) = ap (λ n. record x { high = n - 1 } ∷ up_to end (map begun xs)) (same xs) ∙ ap (λ z. record x { high = begin_of end xs - 1 } ∷ z) (begun-up_to end xs)
  where
    same : (xs : List Segment) → begin_of end (map begun xs) ≡ begin_of end xs
    same [] = refl
    same (x ∷ xs) = refl

up_to-begun : (end : ℕ) (xs : List Segment) → map begun (up_to end xs) ≡ map begun xs
up_to-begun end [] = refl
up_to-begun end (x ∷ xs) = ap (λ z. begun x ∷ z) (up_to-begun end xs)

drop-up_to : (n end : ℕ) (xs : List Segment) → drop n (up_to end xs) ≡ up_to end (drop n xs)
drop-up_to zero end xs = refl
drop-up_to (suc n) end [] = refl
drop-up_to (suc n) end (x ∷ xs) = drop-up_to n end xs

drop-map : (n : ℕ) (xs : List Segment) → drop n (map begun xs) ≡ map begun (drop n xs)
drop-map zero xs = refl
drop-map (suc n) [] = refl
drop-map (suc n) (x ∷ xs) = drop-map n xs

-- those from a place on, and then those of the records
pub rest-is : (from end other : ℕ) (xs ys : List Segment) (l : PlainLevel) → from ≤ length xs → begins_in l ≡ map begun (drop from (up_to end xs)) ++ map begun ys → l.end ≡ other
    → segments_in l ≡ drop from (up_to other (xs ++ ys))
rest-is from end other xs ys l le b e =
    ap (λ z. up_to l.end z) b ∙ ap (λ n. up_to n (map begun (drop from (up_to end xs)) ++ map begun ys)) e
    ∙ ap (λ z. up_to other (map begun z ++ map begun ys)) (drop-up_to from end xs)
    ∙ ap (λ z. up_to other (z ++ map begun ys)) (up_to-begun end (drop from xs))
    ∙ ap (up_to other) (sym (Rattle.std.proofs.lemmas.List.map-append begun (drop from xs) ys))
    ∙ begun-up_to other (drop from xs ++ ys)
    ∙ ap (up_to other) (sym (Rattle.std.proofs.lemmas.List.drop-append-le from xs ys le))
    ∙ sym (drop-up_to from other (xs ++ ys))

abbrev nothing : List Segment
nothing = []

take-nothing : (n : ℕ) → take n nothing ≡ nothing
take-nothing zero = refl
take-nothing (suc n) = refl

take-drop : (from n : ℕ) (xs : List Segment) → take n (drop from xs) ≡ drop from (take (from + n) xs)
take-drop zero n xs = ap (λ k. take k xs) (let z : n ≡ 0 + n = omega arith in z)
take-drop (suc from) n [] = take-nothing n ∙ sym (ap (drop (suc from)) (take-nothing (suc from + n)))
take-drop (suc from) n (x ∷ xs) = take-drop from n xs ∙ ap (λ k. drop (suc from) (take k (x ∷ xs))) (let z : suc (from + n) ≡ suc from + n = omega arith in z)

-- ---- the first level

module _ (levels : KeptLevels) (table : FlatKept) (bytes records : List ℕ) (h : MayExtendLevels levels table bytes records) (from : ℕ) (first : PlainGroups) (others : List PlainGroups) (are : levels.levels ≡ first ∷ others) (from-is : from ≡ first.grouped)
    (l : PlainLevel) (begins : begins_in l ≡ map begun (drop from (flats_of table h.before)) ++ map begun (firsts h.segments)) (end : l.end ≡ place_behind table.end h.segments) where
  old : List Segment
  old = flats_of table h.before

  new : List Segment
  new = extended table h.before h.segments

  above : AreLevelsAbove (flats_of table h.before) 0 (first ∷ others)
  above = subst (AreLevelsAbove (flats_of table h.before) 0) are h.levels_of.levels

  pub grouped-is : from ≡ count_grouped 0 (complete (flats_of table h.before))
  grouped-is = from-is ∙ above.0.grouped

  lengths-old : length (flats_of table h.before) ≡ length (firsts (segments_of h.before))
  lengths-old = up_to-length table.end (firsts (segments_of h.before))

  pub lengths-new : length (extended table h.before h.segments) ≡ length (firsts (segments_of h.before)) + length (firsts h.segments)
  lengths-new =
      let a = ap length (new-parts table bytes records h.before h.segments h.follow) in
      let b = up_to-length (place_behind table.end h.segments) (firsts (segments_of h.before) ++ firsts h.segments) in
      let c = length-append (firsts (segments_of h.before)) (firsts h.segments) in omega (arith, a, b, c)

  from-most : from ≤ length (flats_of table h.before) - 1
  from-most =
      let g = grouped-is in let m = (count-most 0 (complete (flats_of table h.before)) (omega arith)).1 in
      let t = length-take (length (flats_of table h.before) - 1) (flats_of table h.before) in omega (arith, g, m, t)

  -- what was gathered
  pub gathered : segments_in l ≡ drop from (extended table h.before h.segments)
  gathered =
      let most = from-most in let len = lengths-old in
      rest-is from table.end (place_behind table.end h.segments) (firsts (segments_of h.before)) (firsts h.segments) l (omega (arith, most, len)) begins end
      ∙ ap (drop from) (sym (new-parts table bytes records h.before h.segments h.follow))

  pub counted : from + length l.entries ≡ length (extended table h.before h.segments)
  counted =
      let a = ap length gathered in let b = length-drop from (extended table h.before h.segments) in let c = segments-length l in
      let most = from-most in let x = lengths-old in let y = lengths-new in omega (arith, a, b, c, most, x, y)

  firsts-few : (xs : List Segment) → length (firsts xs) ≤ length xs
  firsts-few [] = omega arith
  firsts-few (x ∷ xs) = case (not (goes_on x)) (firsts-few xs)
    where
      case : (b : Rattle.std.proofs.Common.Bool) → length (firsts xs) ≤ length xs → length (Rattle.std.proofs.Common.cond b (x ∷ firsts xs) (firsts xs)) ≤ suc (length xs)
      case Rattle.std.proofs.Common.true le = omega (arith, le)
      case Rattle.std.proofs.Common.false le = omega (arith, le)

  pub few-new : length (extended table h.before h.segments) < 2 ^ 32
  few-new =
      let a = lengths-new in let b = firsts-few (segments_of h.before) in let c = firsts-few h.segments in
      let d = length-map h.before (λ (r : PlacedSegment). r.segment) in let few = h.follow.few in omega (arith, a, b, c, d, few)

  module _ (now : PlainLevel) (level : now.level ≡ 0) (read : list_all (is_read now.bytes) now.entries ≡ true)
      (shorter : segments_in now ≡ take (length (segments_in l) - 1) (segments_in l)) (ends : now.end ≡ begin_of l.end (drop (length (segments_in l) - 1) (segments_in l))) where
    -- where the last of all is
    place : from + (length (segments_in l) - 1) ≡ length (extended table h.before h.segments) - 1
    place =
        let a = ap length gathered in let b = length-drop from (extended table h.before h.segments) in
        let most = from-most in let x = lengths-old in let y = lengths-new in omega (arith, a, b, most, x, y)

    left : segments_in now ≡ drop from (complete (extended table h.before h.segments))
    left =
        shorter ∙ ap (take (length (segments_in l) - 1)) gathered ∙ take-drop from (length (segments_in l) - 1) (extended table h.before h.segments)
        ∙ ap (λ n. drop from (take n (extended table h.before h.segments))) place

    end-is : now.end ≡ begin_of (place_behind table.end h.segments) (drop (length (extended table h.before h.segments) - 1) (extended table h.before h.segments))
    end-is =
        ends ∙ ap (λ n. begin_of n (drop (length (segments_in l) - 1) (segments_in l))) end
        ∙ ap (λ z. begin_of (place_behind table.end h.segments) (drop (length (segments_in l) - 1) z)) gathered
        ∙ ap (begin_of (place_behind table.end h.segments)) (drop-drop (length (segments_in l) - 1) from (extended table h.before h.segments) ∙ ap (λ n. drop n (extended table h.before h.segments)) place)

    grown : Grows (flats_of table h.before) (extended table h.before h.segments)
    grown =
        subst (Grows (flats_of table h.before)) (sym (new-parts table bytes records h.before h.segments h.follow))
        (grows-of table.end (place_behind table.end h.segments) (firsts (segments_of h.before)) (firsts h.segments))

    pub may-become : MayBecome (flats_of table h.before) (extended table h.before h.segments)
    may-become = record {
      old_end = table.end;
      new_end = place_behind table.end h.segments;
      old_whole = table-whole table h.before h.follow.table_of;
      new_whole = new-whole table bytes records h.before h.segments h.follow;
      grows = grown;
      order = follow-ends table.end (place_behind table.end h.segments) h.segments
          (turn-follow (MasterMayStandAt table.end) (λ place s may. begins-there table.end place s may.0) table.end h.segments h.follow.in_turn);
      small = h.follow.small;
      few = few-new;
    }

    pub may-grow-first : MayGrow (flats_of table h.before) (extended table h.before h.segments) now 0 levels.levels
    may-grow-first =
        let whole = new-whole table bytes records h.before h.segments h.follow in
        let le : length (extended table h.before h.segments) - 1 ≤ length (extended table h.before h.segments) = omega arith in
        let f = follow-take 0 (place_behind table.end h.segments) (length (extended table h.before h.segments) - 1) (extended table h.before h.segments) le whole.follow in
        record {
          may = may-become;
          levels_are = h.levels_of.levels;
          left = λ _. record {
            number = level;
            segments = left ∙ ap (λ n. drop n (complete (extended table h.before h.segments))) grouped-is;
            follow = subst (λ (n : ℕ). Follow 0 n (complete (extended table h.before h.segments))) (sym end-is) f;
            read = read;
          };
        }

-- ---- what is kept of all levels

pub record First (levels : List PlainGroups) (first : PlainGroups) : Type 0 where
  pub others : List PlainGroups
  pub are : levels ≡ first ∷ others

pub first-is : (flats : List Segment) (levels : List PlainGroups) (at : PlainGroups) → AreLevelsAbove flats 0 levels → at ≡ get_or levels 0 at → First levels at
first-is flats [] at h e = absurd (omega (arith, h))
first-is flats (x ∷ xs) at h e = record { others = xs; are = ap (λ z. z ∷ xs) (sym e) }

pub from-within : (levels : KeptLevels) (table : FlatKept) (bytes records : List ℕ) (h : MayExtendLevels levels table bytes records) (from : ℕ) (first : PlainGroups) → First levels.levels first → from ≡ first.grouped
    → from ≤ length (flats_of table h.before)
from-within levels table bytes records h from first f e =
    let above = subst (AreLevelsAbove (flats_of table h.before) 0) f.are h.levels_of.levels in
    let g = e ∙ above.0.grouped in let m = (count-most 0 (complete (flats_of table h.before)) (omega arith)).1 in
    let t = length-take (length (flats_of table h.before) - 1) (flats_of table h.before) in omega (arith, g, m, t)
