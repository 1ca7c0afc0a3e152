use Rattle.std.proofs.Common.{◌≡◌, map, take}
use Rattle.assign_ids.specs.Numbers.{others_of}
use Rattle.change_parts.specs.Moves.{node_of}
use Rattle.pull_plan.proofs.pull.numbers_of.Given as goal

abbrev pub invariant-ids : goal.invariant-ids
invariant-ids l = l.numbers.items ≡ others_of (map node_of (take l.id-index l.ids))
