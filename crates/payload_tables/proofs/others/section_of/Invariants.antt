use Rattle.std.proofs.Common.{List, length}
use Rattle.segment_codec.specs.Record.{Segment}
use Rattle.payload_tables.specs.Sections.{AreOthers}
use Rattle.payload_tables.proofs.Sectioning.{SoFar}
use Rattle.payload_tables.proofs.others.section_of.Given as goal

abbrev pub invariant-records : goal.invariant-records
invariant-records l = (segments : List Segment) → AreOthers segments l.records → SoFar l.at l.records l.section l.rest segments

abbrev pub decreases-records : goal.decreases-records
decreases-records l = length l.rest
