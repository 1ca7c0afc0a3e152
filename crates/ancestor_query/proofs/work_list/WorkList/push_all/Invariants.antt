use Rattle.std.proofs.Common.{ℕ, ◌⊎◌, ◌↔◌}
use Rattle.id_groups.specs.Lists.{IsIn}
use Rattle.segment_codec.specs.Lent.{parents_left}
use Rattle.ancestor_query.proofs.work_list.WorkList.push_all.Given as goal

abbrev pub invariant-push : goal.invariant-push
invariant-push l = record {
  members : (x : ℕ) → (IsIn x l.self ⊎ IsIn x (parents_left l.id-iterator)) ↔ (IsIn x l.fn.self ⊎ IsIn x (parents_left l.fn.parents));
  kept : (x : ℕ) → IsIn x l.fn.self → IsIn x l.self;
}
