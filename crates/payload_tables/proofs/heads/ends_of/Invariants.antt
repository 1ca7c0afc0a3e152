use Rattle.std.proofs.Common.{List, length}
use Rattle.segment_codec.specs.Record.{Segment}
use Rattle.flat_segments.specs.Placed.{AreRecords}
use Rattle.payload_tables.proofs.Heading.{EndsSoFar}
use Rattle.payload_tables.proofs.heads.ends_of.Given as goal

abbrev pub invariant-records : goal.invariant-records
invariant-records l = (segments : List Segment) → AreRecords segments l.records → EndsSoFar l.below l.highs.items l.parents.items l.rest segments

abbrev pub decreases-records : goal.decreases-records
decreases-records l = length l.rest
