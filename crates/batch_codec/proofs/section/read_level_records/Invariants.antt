use Rattle.std.proofs.Common.{ℕ}
use Rattle.batch_codec.specs.Reading.{may_rise, behind_level}
use Rattle.batch_codec.proofs.Records.{ReadSoFar}
use Rattle.batch_codec.proofs.section.read_level_records.Given as goal

abbrev pub invariant-records : goal.invariant-records
invariant-records l = ReadSoFar (ℕ × ℕ) (may_rise l.end) behind_level (1, 0) l.count l.bytes l.counter (l.level, l.low) l.rest
