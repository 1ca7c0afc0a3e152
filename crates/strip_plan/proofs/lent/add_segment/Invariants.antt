use Rattle.strip_plan.specs.LentRows.{AreLent}
use Rattle.strip_plan.proofs.lent.add_segment.Given as goal

abbrev pub invariant-rows : goal.invariant-rows
invariant-rows g l = AreLent (g.T.SegmentTable.flats l.fn.table) l.fn.rows.items l.fn.k → AreLent (g.T.SegmentTable.flats l.fn.table) l.rows.items l._j
