-- Places in a list of segments that ascends, and the ids that its parts have.
use Rattle.std.specs.Prelude.{ℕ, ◌<◌, ◌≤◌, ◌⊎◌, List, [], ◌∷◌, length, take, drop}
use Rattle.id_groups.specs.Lists.{IsIn}
use Rattle.segment_codec.specs.Record.{Segment}
use Rattle.segment_codec.specs.Table.{IsInSegment}

-- some segment of the list has the id
abbrev pub IsOf : List Segment → ℕ → Type 0
IsOf [] x = ⊥
IsOf (s ∷ rest) x = IsInSegment x s ⊎ IsOf rest x

-- the segments before the place end below the id, and no other does
pub record IsPlace (flats : List Segment) (id k : ℕ) : Type 0 where
  pub before : (s : Segment) → IsIn s (take k flats) → s.high < id
  pub behind : (s : Segment) → IsIn s (drop k flats) → id ≤ s.high

-- so many segments stand up to the one that has the id: there are as many, and the others begin above it
pub record IsEndAt (flats : List Segment) (id n : ℕ) : Type 0 where
  pub within : n ≤ length flats
  pub above : (s : Segment) → IsIn s (drop n flats) → id < s.low
