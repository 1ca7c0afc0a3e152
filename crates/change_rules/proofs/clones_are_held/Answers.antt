use Rattle.change_rules.proofs.Cloned.{clone-held}
use Rattle.change_rules.proofs.clones_are_held.Goals as goal

pub returns : goal.returns
returns c = clone-held
