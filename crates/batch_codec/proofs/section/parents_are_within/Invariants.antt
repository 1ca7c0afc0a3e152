use Rattle.std.proofs.Common.{◌≡◌, length}
use Rattle.segment_codec.specs.Lent.{segment_of, parents_left}
use Rattle.batch_codec.specs.Reading.{are_within}
use Rattle.batch_codec.proofs.section.parents_are_within.Given as goal

abbrev pub invariant-parents : goal.invariant-parents
invariant-parents l = are_within l.end (parents_left l.parents) ≡ are_within l.end (segment_of l.fn.segment).parents

abbrev pub decreases-parents : goal.decreases-parents
decreases-parents l = length (parents_left l.parents)
