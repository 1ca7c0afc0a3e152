use Rattle.std.proofs.Common.{refl}
use Rattle.segment_rules.specs.Levels.{group_size}
use Rattle.worked_rows.proofs.levels_that_come.Goals as goal

pub returns : goal.returns
unfolding group_size
returns c = refl
