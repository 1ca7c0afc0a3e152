use Rattle.std.proofs.Common.{◌≡◌, map, take}
use Rattle.name_index.proofs.Reading.{made}
use Rattle.name_index.proofs.run.entries_at.Given as goal

abbrev pub invariant-each : goal.invariant-each
invariant-each l = l.entries.items ≡ map (made l.stretch.at l.stretch.bytes.now) (take l.place-index l.places)
