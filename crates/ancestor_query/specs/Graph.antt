-- The graph of a table of segments.
use Rattle.std.specs.Prelude.{ℕ, ◌+◌, ◌-◌, ◌<◌, ◌≤◌, List, [], ◌∷◌, ◌++◌}
use Rattle.id_groups.specs.Lists.{IsIn}
use Rattle.id_groups.specs.Id.{is_master_id}
use Rattle.commit_graph.specs.Graph.{Graph, Reaches}
use Rattle.segment_codec.specs.Record.{Segment}
use Rattle.segment_codec.specs.Table.{parents_at}
use Rattle.span_set.specs.Members.{descending_from}

-- all ids of ascending segments, the greatest first
abbrev pub down_of : List Segment → List ℕ
down_of [] = []
down_of (s ∷ rest) = down_of rest ++ descending_from s.low (s.high + 1 - s.low)

-- the graph of the ids that these flat segments have
abbrev pub table_graph : List Segment → Graph ℕ
table_graph flats = record {
  down = down_of flats;
  parents = parents_at flats;
  is_master = is_master_id;
}

-- The ids from low to id can be taken at once: id reaches each, and the parents are those of these ids that lie below low.
pub record IsJump (g : Graph ℕ) (low id : ℕ) (parents : List ℕ) : Type 0 where
  pub order : low ≤ id
  pub reaches : (x : ℕ) → low ≤ x → x ≤ id → Reaches g id x
  pub out : (x p : ℕ) → low ≤ x → x ≤ id → IsIn p (g.parents x) → p < low → IsIn p parents
  pub only : (p : ℕ) → IsIn p parents → (p < low) × (x : ℕ) × (low ≤ x) × (x ≤ id) × IsIn p (g.parents x)
