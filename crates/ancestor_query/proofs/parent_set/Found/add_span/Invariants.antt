use Rattle.std.proofs.Common.{ℕ, ◌≤◌, ◌+◌, ◌⊎◌, ◌↔◌, ◌-◌, ◌^◌, min}
use Rattle.ancestor_query.specs.Parts.{IsFound, IsSettled}
use Rattle.ancestor_query.proofs.Parts.{ParentsFrom}
use Rattle.ancestor_query.proofs.parent_set.Found.add_span.Given as goal

abbrev pub invariant-parts : goal.invariant-parts
invariant-parts g l = record {
  counted : min l.fn.steps.taken (2 ^ 64 - 1) ≤ l.steps.taken;
  low : l.low ≤ l.end;
  high : l.end ≤ l.fn.span.high + 1;
  parents : (x : ℕ) → IsFound l.self.ids l.self.waiting x ↔ (IsFound l.fn.self.ids l.fn.self.waiting x ⊎ ParentsFrom (g.T.SegmentTable.flats l.table) l.end l.fn.span.high x);
  settled : IsSettled l.self.ids l.self.waiting l.self.end;
}

abbrev pub decreases-parts : goal.decreases-parts
decreases-parts g l = l.end
