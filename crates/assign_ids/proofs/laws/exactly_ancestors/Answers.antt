use Rattle.assign_ids.proofs.NumberLemmas.{exactly}
use Rattle.assign_ids.proofs.laws.exactly_ancestors.Goals as goal

pub returns : goal.returns
returns c = λ parents n heads x older below. exactly parents older n heads below x
