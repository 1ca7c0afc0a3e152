use Rattle.std.proofs.Common.{◌≡◌, ◌≤◌, ◌-◌, ◌^◌, min}
use Rattle.commit_graph.specs.Graph.{first_ancestor}
use Rattle.segment_codec.specs.Table.{IsHeld}
use Rattle.ancestor_query.specs.Graph.{table_graph}
use Rattle.ancestor_query.proofs.ancestry.first_ancestor.Given as goal

abbrev pub invariant-jump : goal.invariant-jump
invariant-jump g l = record {
  inside : IsHeld (g.T.SegmentTable.flats l.table) l.id;
  counted : min l.fn.steps.taken (2 ^ 64 - 1) ≤ l.steps.taken;
  same : first_ancestor (table_graph (g.T.SegmentTable.flats l.table)) l.left l.id ≡ first_ancestor (table_graph (g.T.SegmentTable.flats l.table)) l.n l.fn.x;
}

abbrev pub decreases-jump : goal.decreases-jump
decreases-jump g l = l.id
