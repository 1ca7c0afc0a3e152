use Rattle.std.proofs.Common.{◌≤◌, ◌-◌}
use Rattle.strip_plan.specs.LentRows.{AreLent}
use Rattle.strip_plan.proofs.lent.read_rows.Given as goal

abbrev pub invariant-rows : goal.invariant-rows
invariant-rows g l = record {
  most : l.k ≤ l.n;
  rows : AreLent (g.T.SegmentTable.flats l.table) l.rows.items l.k;
}

abbrev pub decreases-rows : goal.decreases-rows
decreases-rows g l = l.n - l.k
