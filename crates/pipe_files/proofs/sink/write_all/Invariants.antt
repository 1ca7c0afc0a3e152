use Rattle.std.proofs.Common.{length, ◌-◌, ◌≤◌}
use Rattle.pipe_files.proofs.sink.write_all.Given as goal

abbrev pub invariant-writes : goal.invariant-writes
invariant-writes g l = l.done ≤ length l.piece

abbrev pub decreases-writes : goal.decreases-writes
decreases-writes g l = length l.piece - l.done
