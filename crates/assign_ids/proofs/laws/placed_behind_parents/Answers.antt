use Rattle.assign_ids.proofs.NumberLemmas.{number-behind}
use Rattle.assign_ids.proofs.laws.placed_behind_parents.Goals as goal

pub returns : goal.returns
returns c = λ parents n x order older lt new. number-behind parents older n x order lt new
