use Rattle.remote_rules.specs.Calls.{IsAskedFor, IsCloned}
use Rattle.remote_trait.proofs.Ruled.{asked-for, cloned-from, failed-as}
use Rattle.remote_trait.proofs.laws.calls_are_ruled.Goals as goal

pub returns-clause-asked : goal.returns-clause-asked
returns-clause-asked c = asked-for

pub returns-clause-cloned : goal.returns-clause-cloned
returns-clause-cloned c = cloned-from

pub returns-clause-asked_failed : goal.returns-clause-asked_failed
returns-clause-asked_failed c = λ count before now l f. failed-as (IsAskedFor count) before now (asked-for count before now l) f

pub returns-clause-clone_failed : goal.returns-clause-clone_failed
returns-clause-clone_failed c = λ before now r f. failed-as IsCloned before now (cloned-from before now r) f
