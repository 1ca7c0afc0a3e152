use Rattle.std.proofs.Common.{ℕ, ◌↔◌, take, ◌≤◌, ◌-◌, ◌^◌, min}
use Rattle.commit_graph.specs.Sets as sets
use Rattle.span_set.specs.Members.{IsMember}
use Rattle.ancestor_query.specs.Graph.{table_graph}
use Rattle.ancestor_query.specs.Parts.{IsFound, IsSettled}
use Rattle.ancestor_query.proofs.parent_set.parents.Given as goal

abbrev pub invariant-spans : goal.invariant-spans
invariant-spans g l = record {
  counted : min l.fn.steps.taken (2 ^ 64 - 1) ≤ l.steps.taken;
  parents : (x : ℕ) → IsFound l.found.ids l.found.waiting x ↔ sets.parents (table_graph (g.T.SegmentTable.flats l.table)) (IsMember (take l.span-index l.span-items)) x;
  settled : IsSettled l.found.ids l.found.waiting l.found.end;
}
