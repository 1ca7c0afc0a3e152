use Rattle.std.proofs.Common.{refl}
use Rattle.core_rules.proofs.Joining.{base-unseen, view-unseen}
use Rattle.core_rules.proofs.taking_is_unseen.Goals as goal

pub returns-clause-base : goal.returns-clause-base
returns-clause-base c = base-unseen

pub returns-clause-pending : goal.returns-clause-pending
returns-clause-pending c = λ st x s. refl

pub returns-clause-view : goal.returns-clause-view
returns-clause-view c = view-unseen
