use Rattle.std.proofs.Common.{ℕ, ◌≡◌, ◌≤◌, ◌+◌, ◌-◌, ◌^◌, min}
use Rattle.span_set.specs.Members.{IsMember, IsCanonical}
use Rattle.ancestor_query.specs.Visits.{IsEnd}
use Rattle.ancestor_query.proofs.Turns.{Going}
use Rattle.ancestor_query.proofs.floor.add_ancestors.Given as goal

abbrev pub invariant-visit : goal.invariant-visit
invariant-visit g l = record {
  going : Going (g.T.SegmentTable.flats l.table) (g.T.SegmentTable.ending_at l.table) (IsMember l.set) l.fn.floor l.fn.steps.taken l.frontier l.work l.answer l.steps.taken;
  counted : min l.fn.steps.taken (2 ^ 64 - 1) ≤ l.steps.taken;
  looked : (x : ℕ) → IsMember l.answer x → min (l.fn.steps.taken + 8) (2 ^ 64 - 1) ≤ l.steps.taken;
  canonical : IsCanonical l.answer;
  set : IsEnd (IsMember l.set) l.frontier l.end;
  first : l.frontier ≡ 2 ^ 57 → l.pace.pause ≡ 0;
}

abbrev pub decreases-visit : goal.decreases-visit
decreases-visit g l = l.frontier
