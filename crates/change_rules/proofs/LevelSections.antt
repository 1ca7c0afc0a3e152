-- The segments of levels that come with a change are a section of a payload.
use Rattle.std.proofs.Common.{◌≡◌, ◌≤◌, ◌<◌, ◌^◌, ℕ, zero, suc, ◌+◌, ◌-◌, inl, inr, not, List, [], ◌∷◌, ◌++◌, length, drop, refl, sym, ap, subst, ◌∙◌, arith, append-nil}
use Rattle.std.specs.Prelude.{filter, flat_map}
use Rattle.std.specs.List.{AllByRecursion, range_with_len}
use Rattle.std.proofs.lemmas.List.{length-append}
use Rattle.id_groups.specs.Lists.{IsIn, is_in}
use Rattle.segment_codec.specs.Record.{Segment}
use Rattle.segment_codec.specs.Flat.{IsFlat}
use Rattle.segment_codec.specs.Table.{Follow, IsLawful}
use Rattle.segment_codec.proofs.Flats.{parts-lawful}
use Rattle.segment_codec.proofs.Tables.{all-pass, follow-within}
use Rattle.flat_segments.specs.Maximal.{begin_of}
use Rattle.segment_rules.specs.Levels.{level_segments, top_level}
use Rattle.segment_rules.specs.NewLevels.{same_segment, new_levels, high_levels}
use Rattle.segment_levels.specs.Whole.{IsWholeTo, Grows}
use Rattle.segment_levels.proofs.Ascending.{all-from-in, in-some, kept-in}
use Rattle.segment_levels.proofs.Coming.{new-behind, new-all}
use Rattle.segment_levels.proofs.Heading.{follow-drop, in-drop}
use Rattle.segment_levels.proofs.Leveled.{leveled, level-grows, level-high, high-segment}
use Rattle.batch_codec.specs.Grammar.{StandsBefore, AscendByLevel, IsOfLevel}

-- flat records that follow one another from id 0 on are a whole group
pub whole-flats : (end : ℕ) (flats : List Segment) → AllByRecursion IsFlat flats → Follow 0 end flats → end ≤ 2 ^ 56 → IsWholeTo flats end
whole-flats end flats flat follow le = record {
  lawful = subst IsLawful (append-nil flats)
      (parts-lawful end 0 flats []
      (record {
        room = le;
        master_ids = follow;
        other_ids = refl;
        each = λ s i.
            let j : IsIn s flats = subst (λ (z : List Segment). IsIn s z) (append-nil flats) i in
            let f : IsFlat s = all-pass IsFlat flats flat s j in
            let w = follow-within 0 end flats follow s j in
            let order = w.1 in let high = w.2 in
            record { flat = f; parents = λ p k. let lt : p < s.low = all-pass (λ q. q < s.low) s.parents f.segment.below p k in inl (omega (arith, lt, order, high)) };
      }));
  follow = follow;
}

-- ---- each is a segment of a level

range-bounds : (a n x : ℕ) → IsIn x (range_with_len a n) → (a ≤ x) × (x < a + n)
range-bounds a zero x i = absurd i
range-bounds a (suc n) x (inl e) = (omega (arith, e), omega (arith, e))
range-bounds a (suc n) x (inr i) = let r = range-bounds (a + 1) n x i in let l = r.0 in let u = r.1 in (omega (arith, l), omega (arith, u))

of-level : (new : List Segment) (end : ℕ) → IsWholeTo new end → end ≤ 16777216 → (level : ℕ) → 1 ≤ level → level ≤ 7 → (s : Segment) → IsIn s (level_segments new level) → IsOfLevel end s × (s.level ≡ level)
of-level new end w small zero low top s i = absurd (omega (arith, low))
of-level new end w small (suc level) low top s i =
    let h = level-high new end w level s i in
    let n = h.number in
    (record { segment = high-segment new end level s h top small; above = omega (arith, n); below = h.high }, n)

pub new-each : (old new : List Segment) (end : ℕ) → IsWholeTo new end → end ≤ 16777216 → AllByRecursion (IsOfLevel end) (new_levels old new)
new-each old new end w small = all-from-in (IsOfLevel end) (new_levels old new) (λ s i.
    let at = in-some (λ level. filter (λ s. not (is_in same_segment s (level_segments old level))) (level_segments new level)) (range_with_len 1 top_level) s i in
    let b = range-bounds 1 7 at.0 at.1 in
    let low = b.0 in let top = b.1 in
    (of-level new end w small at.0 low (omega (arith, top)) s (kept-in (λ s. not (is_in same_segment s (level_segments old at.0))) (level_segments new at.0) s at.2)).0)

-- ---- they ascend

join : (xs ys : List Segment) → AscendByLevel xs → AscendByLevel ys → ((s t : Segment) → IsIn s xs → IsIn t ys → StandsBefore s t) → AscendByLevel (xs ++ ys)
join [] ys a b h = b
join (x ∷ []) [] a b h = tt
join (x ∷ []) (y ∷ ys) a b h = (h x y (inl refl) (inl refl), b)
join (x ∷ z ∷ xs) ys a b h = (a.0, join (z ∷ xs) ys a.1 b (λ s t i j. h s t (inr i) j))

follow-ascends : (level first end : ℕ) (xs : List Segment) → Follow first end xs → ((s : Segment) → IsIn s xs → s.level ≡ level) → AscendByLevel xs
follow-ascends level first end [] f h = tt
follow-ascends level first end (s ∷ []) f h = tt
follow-ascends level first end (s ∷ t ∷ more) f h =
    let low = f.0 in let order = f.1 in let next = f.2.0 in
    (inr (h s (inl refl) ∙ sym (h t (inr (inl refl))), omega (arith, low, order, next)), follow-ascends level (s.high + 1) end (t ∷ more) f.2 (λ q i. h q (inr i)))

rows-ascend : (f : ℕ → List Segment) (a n : ℕ) → ((k : ℕ) → a ≤ k → k < a + n → AscendByLevel (f k)) → ((k : ℕ) → a ≤ k → k < a + n → (s : Segment) → IsIn s (f k) → s.level ≡ k) → AscendByLevel (flat_map f (range_with_len a n))
rows-ascend f a zero each level = tt
rows-ascend f a (suc n) each level =
    join (f a) (flat_map f (range_with_len (a + 1) n)) (each a (omega arith) (omega arith))
    (rows-ascend f (a + 1) n (λ k le lt. each k (omega (arith, le)) (omega (arith, lt))) (λ k le lt. level k (omega (arith, le)) (omega (arith, lt))))
    (λ s t i j.
    let at = in-some f (range_with_len (a + 1) n) t j in
    let b = range-bounds (a + 1) n at.0 at.1 in
    let low = b.0 in let top = b.1 in
    let here = level a (omega arith) (omega arith) s i in
    let there = level at.0 (omega (arith, low)) (omega (arith, top)) t at.2 in
    inl (omega (arith, here, there, low)))

pub new-ascend : (old new : List Segment) (end : ℕ) → IsWholeTo new end → end ≤ 16777216 → Grows old new → AscendByLevel (new_levels old new)
new-ascend old new end w small g =
    let f = λ (level : ℕ). drop (length (level_segments old level)) (level_segments new level) in
    let number : (k : ℕ) → 1 ≤ k → k < 1 + 7 → (s : Segment) → IsIn s (f k) → s.level ≡ k =
    λ k le lt s i. (of-level new end w small k le (omega (arith, lt)) s (in-drop (length (level_segments old k)) (level_segments new k) s i)).1 in
    subst AscendByLevel (sym (new-behind old new end w g))
    (rows-ascend f 1 7
    (λ k le lt.
    let at = leveled new end w k in
    let grown = level-grows old new g k in
    let long = ap length grown.1 ∙ length-append (level_segments old k) grown.0 in
    follow-ascends k (begin_of at.last (drop (length (level_segments old k)) (level_segments new k))) at.last (f k)
    (follow-drop 0 at.last (length (level_segments old k)) (level_segments new k) (omega (arith, long)) at.follow) (number k le lt))
    number)

-- ---- of a first payload

from-nothing : (new : List Segment) → Grows [] new
from-nothing new = record { more = Rattle.segment_rules.specs.Levels.complete new; is = refl }

pub every-level : (new : List Segment) (end : ℕ) → IsWholeTo new end → end ≤ 16777216 → AllByRecursion (IsOfLevel end) (high_levels new)
every-level new end w small = subst (AllByRecursion (IsOfLevel end)) (new-all new) (new-each [] new end w small)

pub all-ascend : (new : List Segment) (end : ℕ) → IsWholeTo new end → end ≤ 16777216 → AscendByLevel (high_levels new)
all-ascend new end w small = subst AscendByLevel (new-all new) (new-ascend [] new end w small (from-nothing new))
