use Rattle.std.proofs.Common.{ℕ, ◌≤◌, ◌↔◌, take, ◌-◌, ◌^◌, min}
use Rattle.commit_graph.specs.Sets as sets
use Rattle.span_set.specs.Members.{IsMember, IsCanonical}
use Rattle.ancestor_query.specs.Graph.{table_graph}
use Rattle.range_query.proofs.root_walk.roots.Given as goal

abbrev pub invariant-spans : goal.invariant-spans
invariant-spans g l = record {
  canonical : IsCanonical l.answer;
  counted : min l.fn.steps.taken (2 ^ 64 - 1) ≤ l.steps.taken;
  exact : (x : ℕ) → IsMember l.answer x ↔ (IsMember (take l.span-index l.span-items) x × (sets.children (table_graph (g.T.SegmentTable.flats l.table)) (IsMember l.set) x → ⊥));
}
