use Rattle.change_rules.proofs.Held.{change-held}
use Rattle.change_rules.proofs.changes_are_held.Goals as goal

pub returns : goal.returns
returns c = change-held
