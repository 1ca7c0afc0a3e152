-- The flat segments of ids, by the parents of each.
use Rattle.std.specs.Prelude.{◌≡◌, ◌≢◌, ◌<◌, ◌≤◌, ◌+◌, ◌-◌, ℕ, List, [], ◌∷◌}
use Rattle.segment_codec.specs.Record.{Segment}

-- The segment of ids from the first on. An id goes on from the one before it exactly where that is its only parent: each of
-- its ids but the first does, and the first doesn't.
pub record IsSegmentFrom (parents : ℕ → List ℕ) (first : ℕ) (s : Segment) : Type 0 where
  pub low : s.low ≡ first
  pub order : first ≤ s.high
  pub flat : s.level ≡ 0
  pub own : s.parents ≡ parents first
  pub begins : parents first ≢ (first - 1) ∷ []
  pub goes_on : (x : ℕ) → first < x → x ≤ s.high → parents x ≡ (x - 1) ∷ []

-- the segments of the ids from the first to the one before the end
abbrev pub AreSegmentsOf : (ℕ → List ℕ) → ℕ → ℕ → List Segment → Type 0
AreSegmentsOf parents first end [] = first ≡ end
AreSegmentsOf parents first end (s ∷ more) = IsSegmentFrom parents first s × AreSegmentsOf parents (s.high + 1) end more
