use Rattle.std.proofs.Common.{◌≡◌, length}
use Rattle.segment_codec.specs.Lent.{parents_left}
use Rattle.batch_codec.specs.Lent.{lent_ids}
use Rattle.batch_codec.specs.Reading.{are_known}
use Rattle.batch_codec.proofs.rules.knows_all.Given as goal

abbrev pub invariant-parents : goal.invariant-parents
invariant-parents l = are_known (lent_ids l.known) (parents_left l.rest) ≡ are_known (lent_ids l.known) (parents_left l.parents)

abbrev pub decreases-parents : goal.decreases-parents
decreases-parents l = length (parents_left l.rest)
