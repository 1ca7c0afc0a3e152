use Rattle.core_rules.proofs.Taking.{all-lawful}
use Rattle.core_rules.proofs.changes_may_be_taken.Goals as goal

pub returns : goal.returns
returns c = all-lawful
