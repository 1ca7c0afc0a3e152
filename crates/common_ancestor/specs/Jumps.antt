-- How far a visit of two sets may go down at once.
use Rattle.std.specs.Prelude.{◌≡◌, ℕ, ◌<◌, ◌≤◌, ◌^◌, ◌⊎◌, List, Some}
use Rattle.segment_codec.specs.Record.{Segment}
use Rattle.segment_codec.specs.Table.{segment_at}
use Rattle.ancestor_query.specs.Graph.{table_graph, IsJump}

-- the floor lies above the other id, unless that doesn't lie below the id
abbrev pub IsFloor : ℕ → ℕ → ℕ → Type 0
IsFloor id other floor = (other < floor) ⊎ (id ≤ other)

-- The ids from the segment's lowest to the id can be taken at once. It begins no lower than the floor, or it is the flat
-- segment that has the id.
pub record IsJumpAbove (flats : List Segment) (id floor : ℕ) (s : Segment) : Type 0 where
  pub jump : IsJump (table_graph flats) s.low id s.parents
  pub group : s.low < 2 ^ 56 → id < 2 ^ 56
  pub above : (floor ≤ s.low) ⊎ (segment_at flats id ≡ Some s)
