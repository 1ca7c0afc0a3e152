use Rattle.std.proofs.Common.{◌≤◌, ◌^◌, ◌-◌, min}
use Rattle.span_set.specs.Members.{IsMember, IsCanonical}
use Rattle.common_ancestor.proofs.MeetTurns.{Visiting}
use Rattle.common_ancestor.proofs.meeting.add_last.Given as goal

abbrev pub invariant-visit : goal.invariant-visit
invariant-visit g l = record {
  visits : Visiting (g.T.SegmentTable.flats l.table) (IsMember l.left) (IsMember l.right) l.frontier l.waiting l.last;
  canonical : IsCanonical l.last;
  counted : min l.fn.steps.taken (2 ^ 64 - 1) ≤ l.steps.taken;
  bound : l.frontier ≤ 2 ^ 57;
}

abbrev pub decreases-visit : goal.decreases-visit
decreases-visit g l = l.frontier
