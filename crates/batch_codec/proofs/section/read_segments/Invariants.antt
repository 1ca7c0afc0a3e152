use Rattle.std.proofs.Common.{ℕ}
use Rattle.batch_codec.specs.Reading.{may_stand, behind_segment}
use Rattle.batch_codec.proofs.Records.{ReadSoFar}
use Rattle.batch_codec.proofs.section.read_segments.Given as goal

abbrev pub invariant-records : goal.invariant-records
invariant-records l = ReadSoFar ℕ (may_stand l.end l.first) behind_segment l.first l.count l.bytes l.counter l.place l.rest
