-- Records of segments.
use Rattle.std.specs.Prelude.{◌≡◌, ◌<◌, ◌≤◌, ◌-◌, ℕ, zero, suc, List, [], ◌∷◌, ◌++◌, length, flat_map}
use Rattle.std.specs.List.{AllByRecursion}
use Rattle.std.specs.List.Sorted.{IsStrictlyIncreasing}
use Rattle.std.specs.Int.{w64, to_be_bytes}
use Rattle.id_groups.specs.Lists.{AreDistinct}
use Rattle.id_groups.specs.Id.{is_master_id, id_end}
use Rattle.segment_codec.specs.Number.{number_bytes}

-- ids from low to high; each but low has the one before it as its only parent
pub record Segment : Type 0 where
  pub low : ℕ
  pub high : ℕ
  pub level : ℕ
  -- those of low, outside the segment
  pub parents : List ℕ

-- bit 0 says that there are no parents; no other bit is ever set
abbrev pub flags_of : List ℕ → ℕ
flags_of [] = 1
flags_of (p ∷ parents) = 0

-- the one spelling of a segment: flags, level, highest id, how far low is below it, how many parents, and the parents
unfoldable pub segment_bytes : Segment → List ℕ
segment_bytes s =
    flags_of s.parents ∷ s.level ∷ to_be_bytes w64 s.high ++ (number_bytes (s.high - s.low)
    ++ (number_bytes (length s.parents) ++ flat_map number_bytes s.parents))

-- the parents of a flat segment are as many as a row may have; those of a higher level ascend
abbrev pub HasLevelsParents : ℕ → List ℕ → Type 0
HasLevelsParents zero parents = length parents ≤ 8
HasLevelsParents (suc k) parents = (length parents ≤ 16777216) × IsStrictlyIncreasing parents

-- what stands before the parents
abbrev pub head_bytes : Segment → List ℕ
head_bytes s = flags_of s.parents ∷ s.level ∷ to_be_bytes w64 s.high ++ (number_bytes (s.high - s.low) ++ number_bytes (length s.parents))

-- the parents, with which the record ends
abbrev pub parents_bytes : Segment → List ℕ
parents_bytes s = flat_map number_bytes s.parents

-- what has a spelling
pub record IsSegment (s : Segment) : Type 0 where
  pub ascending : s.low ≤ s.high
  pub one_group : is_master_id s.low ≡ is_master_id s.high
  pub valid : s.high < id_end
  pub level : s.level ≤ 7
  pub below : AllByRecursion (λ p. p < s.low) s.parents
  pub distinct : AreDistinct s.parents
  pub level_parents : HasLevelsParents s.level s.parents

-- the first list stands in front of the second
abbrev pub HasFront : List ℕ → List ℕ → Type 0
HasFront front bytes = (more : List ℕ) × (bytes ≡ front ++ more)
