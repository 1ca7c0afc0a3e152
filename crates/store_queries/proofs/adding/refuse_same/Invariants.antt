use Rattle.std.proofs.Common.{take}
use Rattle.id_groups.specs.Lists.{AreDistinct}
use Rattle.store_queries.proofs.adding.refuse_same.Given as goal

abbrev pub invariant-ids : goal.invariant-ids
invariant-ids l = AreDistinct (take l.place l.ids)
