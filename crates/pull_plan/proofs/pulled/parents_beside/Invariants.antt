use Rattle.std.proofs.Common.{◌≡◌, map, take}
use Rattle.pull_plan.specs.Taken.{beside}
use Rattle.pull_plan.proofs.pulled.parents_beside.Given as goal

abbrev pub invariant-numbers : goal.invariant-numbers
invariant-numbers l = l.parents.items ≡ map (beside l.cloned l.ids) (take l.number-index l.numbers)
