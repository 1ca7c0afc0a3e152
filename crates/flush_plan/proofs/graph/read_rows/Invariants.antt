use Rattle.std.proofs.Common.{◌≤◌, ◌-◌}
use Rattle.flush_plan.specs.Places.{AreRows}
use Rattle.change_parts.specs.Rows.{table_rows}
use Rattle.flush_plan.proofs.graph.read_rows.Given as goal

abbrev pub invariant-rows : goal.invariant-rows
invariant-rows g l = record {
  most : l.k ≤ l.n;
  rows : AreRows l.rows.places.items l.rows.ids.items (table_rows (g.T.SegmentTable.flats l.table) l.k);
}

abbrev pub decreases-rows : goal.decreases-rows
decreases-rows g l = l.n - l.k
