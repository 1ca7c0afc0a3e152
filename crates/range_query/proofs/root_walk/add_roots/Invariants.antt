use Rattle.std.proofs.Common.{ℕ, ◌≤◌, ◌+◌, ◌⊎◌, ◌↔◌, ◌-◌, ◌^◌, min}
use Rattle.commit_graph.specs.Sets as sets
use Rattle.span_set.specs.Members.{IsMember, IsCanonical}
use Rattle.ancestor_query.specs.Graph.{table_graph}
use Rattle.range_query.proofs.root_walk.add_roots.Given as goal

abbrev pub invariant-parts : goal.invariant-parts
invariant-parts g l = record {
  low : l.low ≤ l.end;
  high : l.end ≤ l.fn.span.high + 1;
  canonical : IsCanonical l.fn.answer → IsCanonical l.answer;
  counted : min l.fn.steps.taken (2 ^ 64 - 1) ≤ l.steps.taken;
  exact : (x : ℕ) → IsMember l.answer x
      ↔ (IsMember l.fn.answer x ⊎ ((l.end ≤ x) × (x ≤ l.fn.span.high) × (sets.children (table_graph (g.T.SegmentTable.flats l.table)) (IsMember l.set) x → ⊥)));
}

abbrev pub decreases-parts : goal.decreases-parts
decreases-parts g l = l.end
