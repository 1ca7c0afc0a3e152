use Rattle.std.proofs.Common.{◌≡◌, ◌++◌}
use Rattle.segment_codec.specs.Lent.{parents_left}
use Rattle.store_bundle.proofs.making.take_ids.Given as goal

abbrev pub invariant-parents : goal.invariant-parents
invariant-parents l = l.ids.items ++ parents_left l.id-iterator ≡ parents_left l.fn.parents
