-- What is kept of edges, and of which segments it is an index.
use Rattle.std.specs.Prelude.{◌≡◌, ◌<◌, ◌≤◌, ℕ, List, Some, length, slice_get}
use Rattle.id_groups.specs.Lists.{IsIn}
use Rattle.segment_codec.specs.Record.{Segment}
use Rattle.segment_codec.specs.Edges.{edge_of, AreEdgesOf}

-- edges as numbers, and of how many segments they are
pub record PlainEdges : Type 0 where
  pub items : List ℕ
  pub count : ℕ

-- they are edges of the segments, as many of which there are
pub record IsEdgeIndexOf (index : PlainEdges) (flats : List Segment) : Type 0 where
  pub edges : AreEdgesOf index.items index.count flats
  pub few : index.count ≤ length flats

-- each edge of the segments from one place up to another is among the numbers
abbrev pub HaveEdges : List ℕ → ℕ → ℕ → List Segment → Type 0
HaveEdges edges from upto flats = (k : ℕ) (s : Segment) (p : ℕ) → from ≤ k → k < upto → slice_get flats k ≡ Some s → IsIn p s.parents → IsIn (edge_of p k) edges
