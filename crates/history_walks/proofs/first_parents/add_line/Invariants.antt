use Rattle.std.proofs.Common.{◌≤◌, ◌^◌, ◌-◌, min}
use Rattle.span_set.specs.Members.{IsMember, IsCanonical}
use Rattle.history_walks.proofs.Cut.{cuts}
use Rattle.history_walks.proofs.Going.{Going}
use Rattle.history_walks.proofs.first_parents.add_line.Given as goal

abbrev pub invariant-visit : goal.invariant-visit
invariant-visit g l = record {
  going : Going (cuts (g.T.SegmentTable.flats l.table)) (IsMember l.set) l.frontier l.work l.answer;
  canonical : IsCanonical l.answer;
  counted : min l.fn.steps.taken (2 ^ 64 - 1) ≤ l.steps.taken;
}

abbrev pub decreases-visit : goal.decreases-visit
decreases-visit g l = l.frontier
