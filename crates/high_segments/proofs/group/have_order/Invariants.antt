use Rattle.std.proofs.Common.{◌≡◌, length}
use Rattle.segment_codec.specs.Reading.{ascend_from}
use Rattle.segment_codec.specs.Lent.{segment_of, parents_left}
use Rattle.high_segments.proofs.group.have_order.Given as goal

abbrev pub invariant-parents : goal.invariant-parents
invariant-parents l = ascend_from l.least (parents_left l.rest) ≡ ascend_from 0 (segment_of l.fn.segment).parents

abbrev pub decreases-parents : goal.decreases-parents
decreases-parents l = length (parents_left l.rest)
