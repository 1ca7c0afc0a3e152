use Rattle.std.proofs.Common.{◌≡◌, length}
use Rattle.segment_codec.specs.Reading.{are_distinct}
use Rattle.segment_codec.specs.Lent.{parents_left}
use Rattle.segment_codec.proofs.reading.are_all_distinct.Given as goal

abbrev pub invariant-parents : goal.invariant-parents
invariant-parents l = are_distinct (parents_left l.rest) ≡ are_distinct (parents_left l.parents)

abbrev pub decreases-parents : goal.decreases-parents
decreases-parents l = length (parents_left l.rest)
