use Rattle.std.proofs.Common.{◌≤◌, ◌-◌, ◌^◌, min}
use Rattle.span_set.specs.Members.{IsMember}
use Rattle.range_query.specs.Tails.{HasFallen}
use Rattle.range_query.proofs.FallTurns.{Falls}
use Rattle.range_query.proofs.downward.go_down.Given as goal

abbrev pub invariant-down : goal.invariant-down
invariant-down g l = record {
  falls : Falls (g.T.SegmentTable.flats l.table) (IsMember l.to) l.lowest l.place l.reached l.near l.far l.ways.least l.ways.end (HasFallen l.found.ids l.tail.low l.tail.end) l.found.cuts.items;
  counted : min l.fn.steps.taken (2 ^ 64 - 1) ≤ l.steps.taken;
}

abbrev pub decreases-down : goal.decreases-down
decreases-down g l = l.place
