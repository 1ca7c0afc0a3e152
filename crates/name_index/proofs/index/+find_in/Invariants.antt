use Rattle.std.proofs.Common.{length}
use Rattle.name_index.proofs.index.+find_in.Given as goal

abbrev pub decreases-find_in : goal.decreases-find_in
decreases-find_in g = length g.runs.now
