use Rattle.change_rules.proofs.Reached.{known-stored}
use Rattle.change_rules.proofs.stored_ids_are_known.Goals as goal

pub returns : goal.returns
returns c = known-stored
