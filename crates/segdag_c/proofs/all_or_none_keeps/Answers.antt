use Rattle.segdag_c.proofs.Together.{same-together, settled-together, stored-together}
use Rattle.segdag_c.proofs.all_or_none_keeps.Goals as goal

pub returns-clause-stored : goal.returns-clause-stored
returns-clause-stored c = stored-together

pub returns-clause-settled : goal.returns-clause-settled
returns-clause-settled c = settled-together

pub returns-clause-same : goal.returns-clause-same
returns-clause-same c = same-together
