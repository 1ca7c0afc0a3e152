use Rattle.std.proofs.Common.{ℕ, ◌↔◌}
use Rattle.ancestor_query.specs.Parts.{IsFound, IsSettled}
use Rattle.ancestor_query.proofs.parent_set.Found.take_from.Given as goal

abbrev pub invariant-take : goal.invariant-take
invariant-take l = record {
  same : (x : ℕ) → IsFound l.self.ids l.self.waiting x ↔ IsFound l.fn.self.ids l.fn.self.waiting x;
  settled : IsSettled l.self.ids l.self.waiting l.self.end;
}

abbrev pub decreases-take : goal.decreases-take
decreases-take l = l.self.end
