use Rattle.flush_plan.specs.Places.{AreRows}
use Rattle.change_parts.specs.Rows.{table_rows}
use Rattle.flush_plan.proofs.graph.add_segment.Given as goal

abbrev pub invariant-rows : goal.invariant-rows
invariant-rows g l =
    AreRows l.fn.rows.places.items l.fn.rows.ids.items (table_rows (g.T.SegmentTable.flats l.fn.table) l.fn.k)
    → AreRows l.rows.places.items l.rows.ids.items (table_rows (g.T.SegmentTable.flats l.fn.table) l.j)
