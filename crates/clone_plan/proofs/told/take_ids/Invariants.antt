use Rattle.std.proofs.Common.{◌≡◌, take}
use Rattle.clone_plan.proofs.told.take_ids.Given as goal

abbrev pub invariant-numbers : goal.invariant-numbers
invariant-numbers l = l.ids.items ≡ take l.i l.numbers
