use Rattle.std.proofs.Common.{◌≤◌, ◌-◌, ◌^◌, min}
use Rattle.range_query.proofs.Rows.{Halves}
use Rattle.range_query.proofs.place.count_below.Given as goal

abbrev pub invariant-halve : goal.invariant-halve
invariant-halve g l = record {
  counted : min l.fn.steps.taken (2 ^ 64 - 1) ≤ l.steps.taken;
  halves : Halves (g.T.SegmentTable.flats l.table) l.id l.low l.high;
}

abbrev pub decreases-halve : goal.decreases-halve
decreases-halve g l = l.high - l.low
