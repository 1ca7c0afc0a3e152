use Rattle.std.proofs.Common.{length}
use Rattle.name_index.proofs.index.+merge_all.Given as goal

abbrev pub decreases-merge_all : goal.decreases-merge_all
decreases-merge_all g = length g.runs.now
