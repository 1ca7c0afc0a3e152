use Rattle.std.proofs.Common.{◌≡◌, ◌<◌, ◌+◌, ◌^◌, length}
use Rattle.std.specs.List.{AllByRecursion, list_any}
use Rattle.segment_codec.specs.Lent.{parents_left}
use Rattle.strip_plan.specs.Stripping.{is_marked}
use Rattle.strip_plan.proofs.strip.has_marked.Given as goal

abbrev pub invariant-parents : goal.invariant-parents
invariant-parents l = record {
  any : list_any (is_marked l.marks) (parents_left l.parents) ≡ list_any (is_marked l.marks) (parents_left l.rest);
  below : AllByRecursion (λ p. p < 2 ^ 56 + length l.marks) (parents_left l.rest);
}

abbrev pub decreases-parents : goal.decreases-parents
decreases-parents l = length (parents_left l.rest)
