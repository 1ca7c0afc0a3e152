use Rattle.std.proofs.Common.{◌-◌}
use Rattle.high_segments.proofs.Gathering.{RowSoFar}
use Rattle.high_segments.proofs.held.segments_from.Given as goal

abbrev pub invariant-ids : goal.invariant-ids
invariant-ids l = RowSoFar l.levels l.top l.start l.run

abbrev pub decreases-ids : goal.decreases-ids
decreases-ids l = l.top.end - l.run.end
