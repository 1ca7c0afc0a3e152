-- The segment by which a visit goes on from an id.
use Rattle.std.specs.Prelude.{◌≡◌, ℕ, ◌<◌, ◌≤◌, ◌^◌, nat_lt, List, Option, Some, None, if◌then◌else◌}
use Rattle.segment_codec.specs.Record.{Segment}
use Rattle.segment_codec.specs.Table.{segment_at}
use Rattle.ancestor_query.specs.Graph.{table_graph, IsJump}

-- of a segment and another, where there is one, the one that begins lower
abbrev pub lower_of : Segment → Option Segment → Segment
lower_of best None = best
lower_of best (Some s) = if nat_lt s.low best.low then s else best

-- The ids from the segment's lowest to the id can be taken at once. It begins no higher than the flat segment that has
-- the id, and than those of the levels from 1 to below a bound that end there.
pub record IsBest (flats : List Segment) (ending : ℕ → ℕ → Option Segment) (levels id : ℕ) (best : Segment) : Type 0 where
  pub jump : IsJump (table_graph flats) best.low id best.parents
  pub group : best.low < 2 ^ 56 → id < 2 ^ 56
  pub flat : (s : Segment) → segment_at flats id ≡ Some s → best.low ≤ s.low
  pub each : (k : ℕ) (s : Segment) → 0 < k → k < levels → ending k id ≡ Some s → best.low ≤ s.low
