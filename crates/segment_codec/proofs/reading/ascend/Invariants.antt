use Rattle.std.proofs.Common.{◌≡◌, length}
use Rattle.segment_codec.specs.Reading.{ascend_from}
use Rattle.segment_codec.specs.Lent.{parents_left}
use Rattle.segment_codec.proofs.reading.ascend.Given as goal

abbrev pub invariant-parents : goal.invariant-parents
invariant-parents l = ascend_from l.least (parents_left l.rest) ≡ ascend_from 0 (parents_left l.parents)

abbrev pub decreases-parents : goal.decreases-parents
decreases-parents l = length (parents_left l.rest)
