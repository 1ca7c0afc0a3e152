use Rattle.std.proofs.Common.{◌≡◌, ◌++◌}
use Rattle.segment_codec.specs.Lent.{parents_left}
use Rattle.flush_plan.proofs.graph.add_parents.Given as goal

abbrev pub invariant-parents : goal.invariant-parents
invariant-parents l = l.ids.items ++ parents_left l.parent-iterator ≡ l.fn.ids.items ++ parents_left l.fn.parents
