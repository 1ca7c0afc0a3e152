use Rattle.assign_ids.proofs.NumberLemmas.{once}
use Rattle.assign_ids.proofs.laws.placed_once.Goals as goal

pub returns : goal.returns
returns c = λ parents n heads older below. once parents older n heads below
