use Rattle.dag_store.proofs.GoingOn.{rest-is-log, whole-is-log}
use Rattle.dag_store.proofs.laws.logs_go_on.Goals as goal

pub returns-clause-rest : goal.returns-clause-rest
returns-clause-rest c = rest-is-log

pub returns-clause-whole : goal.returns-clause-whole
returns-clause-whole c = whole-is-log
