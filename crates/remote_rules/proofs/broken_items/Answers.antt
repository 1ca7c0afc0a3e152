use Rattle.remote_rules.proofs.Unbroken.{unbroken-is-lawful}
use Rattle.remote_rules.proofs.broken_items.Goals as goal

pub returns-clause-lawful : goal.returns-clause-lawful
returns-clause-lawful c = unbroken-is-lawful
