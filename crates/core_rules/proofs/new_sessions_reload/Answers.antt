use Rattle.core_rules.proofs.Following.{reload-empty}
use Rattle.core_rules.proofs.Going.{all-reloaded}
use Rattle.core_rules.proofs.new_sessions_reload.Goals as goal

pub returns-clause-all : goal.returns-clause-all
returns-clause-all c = all-reloaded

pub returns-clause-one : goal.returns-clause-one
returns-clause-one c = reload-empty
