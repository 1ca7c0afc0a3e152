use Rattle.std.proofs.Common.{◌≤◌, ◌+◌, ◌-◌, ◌^◌, min}
use Rattle.common_ancestor.proofs.Folds.{Pieces}
use Rattle.common_ancestor.proofs.all_reach.meet_span.Given as goal

abbrev pub invariant-pieces : goal.invariant-pieces
invariant-pieces g l = record {
  low : l.low ≤ l.end;
  high : l.end ≤ l.fn.span.high + 1;
  counted : min l.fn.steps.taken (2 ^ 64 - 1) ≤ l.steps.taken;
  pieces : Pieces (g.T.SegmentTable.flats l.table) (g.met.T.SegmentTable.lawful l.table) l.fn.set l.end l.fn.span.high l.last;
}

abbrev pub decreases-pieces : goal.decreases-pieces
decreases-pieces g l = l.end
