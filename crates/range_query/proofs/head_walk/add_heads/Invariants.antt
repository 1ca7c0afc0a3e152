use Rattle.std.proofs.Common.{◌≤◌, ◌+◌, ◌-◌, ◌^◌, min}
use Rattle.span_set.specs.Members.{IsCanonical}
use Rattle.range_query.specs.Ends.{HeadsFrom}
use Rattle.range_query.proofs.head_walk.add_heads.Given as goal

abbrev pub invariant-parts : goal.invariant-parts
invariant-parts g l = record {
  low : l.low ≤ l.end;
  high : l.end ≤ l.fn.span.high + 1;
  canonical : IsCanonical l.fn.answer → IsCanonical l.answer;
  counted : min l.fn.steps.taken (2 ^ 64 - 1) ≤ l.steps.taken;
  heads : HeadsFrom (g.T.SegmentTable.flats l.table) l.set l.end l.answer l.waiting;
}

abbrev pub decreases-parts : goal.decreases-parts
decreases-parts g l = l.end
