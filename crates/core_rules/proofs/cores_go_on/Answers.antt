use Rattle.core_rules.proofs.Going.{may-do, may-take}
use Rattle.core_rules.proofs.cores_go_on.Goals as goal

pub returns-clause-lines : goal.returns-clause-lines
returns-clause-lines c = may-do

pub returns-clause-takes : goal.returns-clause-takes
returns-clause-takes c = may-take
