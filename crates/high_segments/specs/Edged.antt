-- Tests of which edges of flat segments are among numbers.
use Rattle.std.specs.Prelude.{ℕ, Bool, true, List, Option, Some, None, nat_eq, slice_get}
use Rattle.std.specs.List.{list_all, range_with_len}
use Rattle.id_groups.specs.Lists.{is_in}
use Rattle.segment_codec.specs.Edges.{edge_of}
use Rattle.segment_codec.specs.Record.{Segment}

-- whether each edge of the segment at a place is there
abbrev pub has_edges : List ℕ → ℕ → Option Segment → Bool
has_edges edges k None = true
has_edges edges k (Some s) = list_all (λ p. is_in nat_eq (edge_of p k) edges) s.parents

-- whether each edge of so many first segments is there
unfoldable pub are_edged : List ℕ → ℕ → List Segment → Bool
are_edged edges count flats = list_all (λ k. has_edges edges k (slice_get flats k)) (range_with_len 0 count)
