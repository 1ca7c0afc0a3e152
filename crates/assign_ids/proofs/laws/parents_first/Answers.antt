use Rattle.assign_ids.proofs.NumberLemmas.{first}
use Rattle.assign_ids.proofs.laws.parents_first.Goals as goal

pub returns : goal.returns
returns c = λ parents n heads before after x older below e. first parents older n heads below before after x e
