use Rattle.std.proofs.Common.{◌≤◌, ◌^◌, ◌-◌, min}
use Rattle.span_set.specs.Members.{IsMember, IsCanonical}
use Rattle.common_ancestor.proofs.OnlyVisits.{OnlyVisits}
use Rattle.common_ancestor.proofs.difference.add_only.Given as goal

abbrev pub invariant-visit : goal.invariant-visit
invariant-visit g l = record {
  visits : OnlyVisits (g.T.SegmentTable.flats l.table) (IsMember l.from) (IsMember l.minus) l.frontier l.unvisited.mine l.unvisited.theirs l.answer;
  canonical : IsCanonical l.answer;
  counted : min l.fn.steps.taken (2 ^ 64 - 1) ≤ l.steps.taken;
  bound : l.frontier ≤ 2 ^ 57;
}

abbrev pub decreases-visit : goal.decreases-visit
decreases-visit g l = l.frontier
