-- Records of levels that rise: each behind the one before, by level and then by low.
use Rattle.std.proofs.Common.{◌≡◌, ℕ, ◌+◌, ◌*◌, ◌<◌, ◌≤◌, true, ltb, leb, eqb, ◌&&◌, ◌||◌, ◌⊎◌, List, [], ◌∷◌, length, inl, inr, ⊎_elim, arith}
use Rattle.std.specs.List.{AllByRecursion}
use Rattle.std.proofs.lemmas.Bool.{and_parts, and_from, or_cases, ltb-true, lt-ltb, leb-true, le-leb, eqb-true, eq-eqb, cases_eq}
use Rattle.segment_codec.specs.Record.{Segment}
use Rattle.batch_codec.specs.Grammar.{StandsBefore, AscendByLevel, IsOfLevel}
use Rattle.batch_codec.specs.Reading.{may_rise}
use Rattle.batch_codec.proofs.Meanings.{or-left, or-right}
use Rattle.batch_codec.proofs.Records.{AllRise}

-- the segment stands behind all that comes before this level and this low
abbrev IsBehind : ℕ × ℕ → Segment → Type 0
IsBehind least s = (least.0 < s.level) ⊎ ((least.0 ≡ s.level) × (least.1 ≤ s.low))

rise-means : (end : ℕ) (least : ℕ × ℕ) (s : Segment) → may_rise end least s ≡ true → IsBehind least s × (s.high < end)
rise-means end least s h =
    let same = eqb least.0 s.level && leb least.1 s.low in
    let a = and_parts (ltb least.0 s.level || same) (ltb s.high end) h in (
      ⊎_elim (λ t. inl (ltb-true least.0 s.level t)) (λ t. let b = and_parts (eqb least.0 s.level) (leb least.1 s.low) t in inr (eqb-true least.0 s.level b.0, leb-true least.1 s.low b.1)) (or_cases (ltb least.0 s.level) same a.0),
      ltb-true s.high end a.1,
    )

rise-decided : (end : ℕ) (least : ℕ × ℕ) (s : Segment) → IsBehind least s → s.high < end → may_rise end least s ≡ true
rise-decided end least s h lt =
    let same = eqb least.0 s.level && leb least.1 s.low in
    and_from (ltb least.0 s.level || same) (ltb s.high end)
    (⊎_elim (λ t. or-left (ltb least.0 s.level) same (lt-ltb least.0 s.level t))
    (λ t. or-right (ltb least.0 s.level) same (and_from (eqb least.0 s.level) (leb least.1 s.low) (eq-eqb least.0 s.level t.0) (le-leb least.1 s.low t.1))) h)
    (lt-ltb s.high end lt)

level-up : (least : ℕ × ℕ) (s : Segment) → IsBehind least s → least.0 ≤ s.level
level-up least s (inl lt) = omega (arith, lt)
level-up least s (inr h) = let e = h.0 in omega (arith, e)

pub rise-each : (end : ℕ) (least : ℕ × ℕ) (ss : List Segment) → 1 ≤ least.0 → AllRise end least ss → AllByRecursion (IsOfLevel end) ss
rise-each end least [] low h = tt
rise-each end least (s ∷ ss) low h =
    let m = rise-means end least s h.1 in
    let above : 1 ≤ s.level = omega (arith, low, level-up least s m.0) in
    (record { segment = h.0; above = above; below = m.1 }, rise-each end (s.level, s.low + 1) ss above h.2)

next-before : (s t : Segment) → IsBehind (s.level, s.low + 1) t → StandsBefore s t
next-before s t (inl lt) = inl lt
next-before s t (inr h) = let up = h.1 in inr (h.0, omega (arith, up))

before-next : (s t : Segment) → StandsBefore s t → IsBehind (s.level, s.low + 1) t
before-next s t (inl lt) = inl lt
before-next s t (inr h) = let up = h.1 in inr (h.0, omega (arith, up))

pub rise-ascend : (end : ℕ) (least : ℕ × ℕ) (ss : List Segment) → AllRise end least ss → AscendByLevel ss
rise-ascend end least [] h = tt
rise-ascend end least (s ∷ []) h = tt
rise-ascend end least (s ∷ t ∷ more) h = (next-before s t (rise-means end (s.level, s.low + 1) t h.2.1).0, rise-ascend end (s.level, s.low + 1) (t ∷ more) h.2)

ascend-behind : (end : ℕ) (least : ℕ × ℕ) (s : Segment) (more : List Segment) → IsBehind least s → AllByRecursion (IsOfLevel end) (s ∷ more) → AscendByLevel (s ∷ more) → AllRise end least (s ∷ more)
ascend-behind end least s [] b each up = (each.0.segment, rise-decided end least s b each.0.below, tt)
ascend-behind end least s (t ∷ more) b each up =
    (each.0.segment, rise-decided end least s b each.0.below, ascend-behind end (s.level, s.low + 1) t more (before-next s t up.0) each.1 up.1)

from-level-1 : (s : Segment) → 1 ≤ s.level → IsBehind (1, 0) s
from-level-1 s h = elim (cases_eq 1 s.level) [
  | inl e ↦ inr (e, omega arith)
  | inr ne ↦ inl (omega (arith, h, ne))
]

pub ascend-rise : (end : ℕ) (ss : List Segment) → AllByRecursion (IsOfLevel end) ss → AscendByLevel ss → AllRise end (1, 0) ss
ascend-rise end [] each up = tt
ascend-rise end (s ∷ more) each up = ascend-behind end (1, 0) s more (from-level-1 s each.0.above) each up

-- there are at most as many as levels and master ids allow
ranks : (least : ℕ × ℕ) (s : Segment) → s.low < 16777216 → least.1 ≤ 16777216 → IsBehind least s → least.0 * 16777216 + least.1 ≤ s.level * 16777216 + s.low
ranks least s low part (inl lt) = omega (arith, lt, part)
ranks least s low part (inr h) = let e = h.0 in let up = h.1 in omega (arith, e, up)

pub rise-few : (end : ℕ) (least : ℕ × ℕ) (ss : List Segment) → end ≤ 16777216 → least.0 ≤ 7 → least.1 ≤ 16777216 → AllRise end least ss → least.0 * 16777216 + least.1 + length ss ≤ 134217728
rise-few end least [] most top part h = omega (arith, top, part)
rise-few end least (s ∷ ss) most top part h =
    let m = rise-means end least s h.1 in
    let up = h.0.ascending in let below = m.1 in let level = h.0.level in
    let low : s.low < 16777216 = omega (arith, up, below, most) in
    let more = rise-few end (s.level, s.low + 1) ss most level (omega (arith, low)) h.2 in
    omega (arith, more, ranks least s low part m.0)
