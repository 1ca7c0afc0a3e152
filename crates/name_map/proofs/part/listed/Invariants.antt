use Rattle.std.proofs.Common.{◌≡◌, take}
use Rattle.batch_codec.specs.Lent.{lent_ids}
use Rattle.name_map.proofs.part.listed.Given as goal

abbrev pub invariant-ids : goal.invariant-ids
invariant-ids l = l.ids.items ≡ take l.i (lent_ids l.known)
