use Rattle.std.proofs.Common.{◌≡◌, take}
use Rattle.name_map.specs.Build.{entry_places}
use Rattle.name_map.proofs.build.places_of.Given as goal

abbrev pub invariant-parts : goal.invariant-parts
invariant-parts l = l.places.items ≡ entry_places (take l.part-index l.parts)
