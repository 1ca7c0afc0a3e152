use Rattle.step_rules.proofs.Steady.{step-agrees}
use Rattle.step_rules.proofs.mirrors_agree.Goals as goal

pub returns : goal.returns
returns c = λ limits st st' s verb reply step i. step-agrees limits st s reply st' verb step i
