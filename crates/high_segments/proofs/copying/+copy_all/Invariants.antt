use Rattle.std.proofs.Common.{length}
use Rattle.high_segments.proofs.copying.+copy_all.Given as goal

abbrev pub decreases-copy_all : goal.decreases-copy_all
decreases-copy_all l = length l.levels.now
