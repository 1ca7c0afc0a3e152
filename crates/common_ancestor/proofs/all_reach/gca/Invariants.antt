use Rattle.std.proofs.Common.{ℕ, ◌-◌, ◌≤◌, ◌^◌, min, take}
use Rattle.span_set.specs.Members.{IsMember}
use Rattle.common_ancestor.proofs.Folds.{Done}
use Rattle.common_ancestor.proofs.all_reach.gca.Given as goal

-- the set has what some member and all ids of the spans gone over reach
abbrev pub invariant-spans : goal.invariant-spans
invariant-spans g l = record {
  counted : min l.fn.steps.taken (2 ^ 64 - 1) ≤ l.steps.taken;
  done :
      (first : ℕ) × IsMember l.set first × Done (g.T.SegmentTable.flats l.table) (g.met.T.SegmentTable.lawful l.table) first (take l.span-index l.span-items) l.last;
}
