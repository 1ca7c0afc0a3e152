use Rattle.std.proofs.Common.{◌≡◌, nat_eq}
use Rattle.std.specs.Cmp.Lexicographic.{pointwise}
use Rattle.segment_codec.specs.Lent.{parents_left}
use Rattle.pull_plan.proofs.agreeing.are_same.Given as goal

abbrev pub invariant-parents : goal.invariant-parents
invariant-parents l = pointwise nat_eq l.numbers (parents_left l.fn.parents) ≡ pointwise nat_eq l.rest (parents_left l.parent-iterator)
