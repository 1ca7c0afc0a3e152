use Rattle.std.proofs.Common.{◌≡◌, ◌++◌, ◌<◌, ◌+◌, ◌^◌, map, length}
use Rattle.std.specs.List.{AllByRecursion}
use Rattle.segment_codec.specs.Lent.{parents_left}
use Rattle.change_parts.specs.Moves.{new_id}
use Rattle.strip_plan.proofs.lent_runs.add_moved.Given as goal

abbrev pub invariant-parents : goal.invariant-parents
invariant-parents l = record {
  moved : l.new.items ++ map (new_id l.ids) (parents_left l.parent-iterator) ≡ l.fn.new.items ++ map (new_id l.ids) (parents_left l.fn.parents);
  below : AllByRecursion (λ p. p < 2 ^ 56 + length l.ids) (parents_left l.parent-iterator);
}
