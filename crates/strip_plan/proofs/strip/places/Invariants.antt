use Rattle.std.proofs.Common.{◌≡◌, take}
use Rattle.strip_plan.specs.Stripping.{places_of}
use Rattle.strip_plan.proofs.strip.places.Given as goal

abbrev pub invariant-ids : goal.invariant-ids
invariant-ids l = l.numbers.items ≡ places_of (take l.id-index l.ids)
