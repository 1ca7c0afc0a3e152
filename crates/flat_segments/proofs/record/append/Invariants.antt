use Rattle.std.proofs.Common.{length}
use Rattle.flat_segments.proofs.Batches.{Appending}
use Rattle.flat_segments.proofs.record.append.Given as goal

abbrev pub invariant-records : goal.invariant-records
invariant-records l = Appending l.fn.first l.fn.at l.fn.records l.fn.entries.items l.entries.items l.next l.number l.rest

abbrev pub decreases-records : goal.decreases-records
decreases-records l = length l.rest
