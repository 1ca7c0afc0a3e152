use Rattle.change_rules.proofs.Paths.{paths-there}
use Rattle.change_rules.proofs.paths_are_there.Goals as goal

pub returns : goal.returns
returns c = paths-there
