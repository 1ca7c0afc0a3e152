use Rattle.std.proofs.Common.{ℕ, ◌≤◌, ◌-◌, ◌^◌, ◌⊎◌, min}
use Rattle.commit_graph.specs.Sets as sets
use Rattle.span_set.specs.Members.{IsMember, IsCanonical}
use Rattle.span_set.specs.Down.{ids_left}
use Rattle.ancestor_query.specs.Graph.{table_graph}
use Rattle.range_query.proofs.EdgeLemmas.{EachAdded}
use Rattle.range_query.proofs.edge_walk.add_each.Given as goal

abbrev pub invariant-ids : goal.invariant-ids
invariant-ids g l = record {
  canonical : IsCanonical l.fn.answer → IsCanonical l.answer;
  counted : min l.fn.steps.taken (2 ^ 64 - 1) ≤ l.steps.taken;
  sound : (x : ℕ) → IsMember l.answer x → IsMember l.fn.answer x ⊎ sets.children (table_graph (g.T.SegmentTable.flats l.table)) (IsMember l.set) x;
  each : EachAdded (g.T.SegmentTable.flats l.table) l.set l.edges.count (ids_left l.id-iterator) l.answer;
}
