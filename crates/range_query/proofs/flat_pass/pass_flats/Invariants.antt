use Rattle.std.proofs.Common.{◌≤◌, ◌-◌, ◌^◌, min, length, drop}
use Rattle.id_groups.specs.Lists.{IsIn}
use Rattle.segment_codec.specs.Record.{Segment}
use Rattle.ancestor_query.specs.Graph.{table_graph}
use Rattle.range_query.specs.Parts.{LackChildren}
use Rattle.range_query.proofs.flat_pass.pass_flats.Given as goal

abbrev pub invariant-down : goal.invariant-down
invariant-down g l = record {
  counted : min l.fn.steps.taken (2 ^ 64 - 1) ≤ l.steps.taken;
  within : l.end ≤ length (g.T.SegmentTable.flats l.table);
  over : (s : Segment) → IsIn s (drop l.end (g.T.SegmentTable.flats l.table)) → l.low ≤ s.low;
  lack : LackChildren (table_graph (g.T.SegmentTable.flats l.table)) l.set l.low l.fn.id;
}

abbrev pub decreases-down : goal.decreases-down
decreases-down g l = l.end
