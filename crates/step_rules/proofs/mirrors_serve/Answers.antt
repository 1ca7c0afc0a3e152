use Rattle.step_rules.proofs.Served.{step-served}
use Rattle.step_rules.proofs.mirrors_serve.Goals as goal

pub returns : goal.returns
returns c = λ limits st st' s verb reply h served step. step-served limits st s h served verb reply st' step
