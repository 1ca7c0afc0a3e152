use Rattle.std.proofs.Common.{ℕ, ◌≤◌, ◌-◌, ◌^◌, ◌⊎◌, length, min}
use Rattle.commit_graph.specs.Sets as sets
use Rattle.span_set.specs.Members.{IsMember, IsCanonical}
use Rattle.ancestor_query.specs.Graph.{table_graph}
use Rattle.range_query.proofs.EdgeLemmas.{Leads}
use Rattle.range_query.proofs.edge_walk.add_begun.Given as goal

abbrev pub invariant-edges : goal.invariant-edges
invariant-edges g l = record {
  within : l.at ≤ length l.items;
  canonical : IsCanonical l.fn.answer → IsCanonical l.answer;
  counted : min l.fn.steps.taken (2 ^ 64 - 1) ≤ l.steps.taken;
  kept : (x : ℕ) → IsMember l.fn.answer x → IsMember l.answer x;
  sound : (x : ℕ) → IsMember l.answer x → IsMember l.fn.answer x ⊎ sets.children (table_graph (g.T.SegmentTable.flats l.table)) (IsMember l.set) x;
  leads : Leads (g.T.SegmentTable.flats l.table) l.fn.edges.count l.id l.items l.at l.answer;
}

abbrev pub decreases-edges : goal.decreases-edges
decreases-edges g l = length l.items - l.at
