use Rattle.std.proofs.Common.{◌≡◌}
use Rattle.name_map.specs.Added.{every}
use Rattle.name_map.proofs.adding.places_every.Given as goal

abbrev pub invariant-places : goal.invariant-places
invariant-places l = l.places.items ≡ every l.first l.step l.i
