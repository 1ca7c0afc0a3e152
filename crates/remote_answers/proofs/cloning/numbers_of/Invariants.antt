use Rattle.std.proofs.Common.{◌≡◌, ◌++◌}
use Rattle.segment_codec.specs.Lent.{parents_left}
use Rattle.remote_answers.proofs.cloning.numbers_of.Given as goal

abbrev pub invariant-parents : goal.invariant-parents
invariant-parents l = l.numbers.items ++ parents_left l.id-iterator ≡ parents_left l.fn.parents
