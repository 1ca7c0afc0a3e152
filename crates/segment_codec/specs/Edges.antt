-- Which flat segments begin on an id, as numbers in order.
use Rattle.std.specs.Prelude.{◌≡◌, ◌<◌, ◌^◌, ◌*◌, ◌+◌, ℕ, List, Some, slice_get}
use Rattle.std.specs.List.Sorted.{IsNonDecreasing}
use Rattle.id_groups.specs.Lists.{IsIn}
use Rattle.segment_codec.specs.Record.{Segment}

-- an edge as a number: the parent, then the place of the flat segment that has it as one
abbrev pub edge_of : ℕ → ℕ → ℕ
edge_of parent place = parent * 2 ^ 32 + place

-- The numbers are in order, and among them is the edge of each parent of each of the first so many segments. Others may be
-- there too: whoever finds an edge looks whether the segment has the parent.
pub record AreEdgesOf (edges : List ℕ) (count : ℕ) (flats : List Segment) : Type 0 where
  pub order : IsNonDecreasing edges
  pub whole : (k : ℕ) (s : Segment) (p : ℕ) → k < count → slice_get flats k ≡ Some s → IsIn p s.parents → IsIn (edge_of p k) edges
