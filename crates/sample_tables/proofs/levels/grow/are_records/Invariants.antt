use Rattle.std.proofs.Common.{length}
use Rattle.flat_segments.proofs.Callers.{ReadSoFar}
use Rattle.sample_tables.proofs.levels.grow.are_records.Given as goal

abbrev pub invariant-records : goal.invariant-records
invariant-records l = ReadSoFar l.bytes l.rest l.room

abbrev pub decreases-records : goal.decreases-records
decreases-records l = length l.rest
