use Rattle.std.proofs.Common.{◌≡◌, length}
use Rattle.std.specs.Prelude.{nat_eq}
use Rattle.id_groups.specs.Lists.{is_in}
use Rattle.segment_codec.specs.Lent.{parents_left}
use Rattle.segment_codec.proofs.reading.contain.Given as goal

abbrev pub invariant-parents : goal.invariant-parents
invariant-parents l = is_in nat_eq l.id (parents_left l.rest) ≡ is_in nat_eq l.id (parents_left l.parents)

abbrev pub decreases-parents : goal.decreases-parents
decreases-parents l = length (parents_left l.rest)
