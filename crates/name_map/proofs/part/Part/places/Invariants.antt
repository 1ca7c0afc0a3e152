use Rattle.std.proofs.Common.{◌≡◌, ◌+◌}
use Rattle.name_map.specs.Added.{every}
use Rattle.name_map.proofs.part.Part.places.Given as goal

abbrev pub invariant-ids : goal.invariant-ids
invariant-ids l = l.places.items ≡ every (l.self.start + 8) 28 l.i
