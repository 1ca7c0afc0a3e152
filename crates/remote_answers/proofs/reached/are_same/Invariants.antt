use Rattle.std.proofs.Common.{◌≡◌, take}
use Rattle.remote_answers.proofs.reached.are_same.Given as goal

abbrev pub invariant-names : goal.invariant-names
invariant-names l = take l.k l.a ≡ take l.k l.b
