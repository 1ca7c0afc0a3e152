use Rattle.core_rules.proofs.Following.{one-store-reading}
use Rattle.core_rules.proofs.Joining.{one-store, one-store-behind}
use Rattle.core_rules.proofs.Ordering.{in-order}
use Rattle.core_rules.proofs.cores_are_one_store.Goals as goal

pub returns-clause-follows : goal.returns-clause-follows
returns-clause-follows c = one-store

pub returns-clause-reading : goal.returns-clause-reading
returns-clause-reading c = one-store-reading

pub returns-clause-behind : goal.returns-clause-behind
returns-clause-behind c = one-store-behind

pub returns-clause-ordered : goal.returns-clause-ordered
returns-clause-ordered c = in-order
