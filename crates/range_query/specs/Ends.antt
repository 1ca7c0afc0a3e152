-- Heads, found from the greatest member down.
use Rattle.std.specs.Prelude.{ℕ, ◌<◌, ◌≤◌, ◌↔◌, List}
use Rattle.id_groups.specs.Lists.{IsIn}
use Rattle.id_groups.specs.declared.span.IdSpan.{IdSpan}
use Rattle.commit_graph.specs.Sets as sets
use Rattle.segment_codec.specs.Record.{Segment}
use Rattle.segment_codec.specs.Table.{parents_at}
use Rattle.span_set.specs.Members.{IsMember}
use Rattle.ancestor_query.specs.Graph.{table_graph}

-- The answer has the heads from an id on. What waits are parents of members, among them all below the id of those from it on.
pub record HeadsFrom (flats : List Segment) (spans : List IdSpan) (end : ℕ) (answer : List IdSpan) (waiting : List ℕ) : Type 0 where
  pub exact : (x : ℕ) → IsMember answer x ↔ (sets.heads (table_graph flats) (IsMember spans) x × (end ≤ x))
  pub sound : (w : ℕ) → IsIn w waiting → sets.parents (table_graph flats) (IsMember spans) w
  pub whole : (c p : ℕ) → IsMember spans c → end ≤ c → IsIn p (parents_at flats c) → p < end → IsIn p waiting
