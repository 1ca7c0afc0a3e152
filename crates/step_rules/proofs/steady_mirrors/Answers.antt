use Rattle.step_rules.proofs.Steady.{step-steady}
use Rattle.step_rules.proofs.steady_mirrors.Goals as goal

pub returns : goal.returns
returns c = λ limits st st' s verb reply steady step. step-steady limits st s steady reply st' verb step
