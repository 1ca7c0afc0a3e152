use Rattle.std.proofs.Common.{◌<◌, ◌≤◌, ◌-◌, ◌^◌, min}
use Rattle.ancestor_query.specs.Visits.{Pending}
use Rattle.ancestor_query.proofs.ancestry.leads_to.Given as goal

abbrev pub invariant-visit : goal.invariant-visit
invariant-visit g l = record {
  pending : Pending (g.T.SegmentTable.flats l.table) l.fn.y l.frontier l.work;
  counted : min l.fn.steps.taken (2 ^ 64 - 1) ≤ l.steps.taken;
  above : l.fn.x < l.frontier;
}

abbrev pub decreases-visit : goal.decreases-visit
decreases-visit g l = l.frontier
