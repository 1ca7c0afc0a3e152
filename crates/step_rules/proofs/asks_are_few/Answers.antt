use Rattle.step_rules.proofs.Risen.{step-risen}
use Rattle.step_rules.proofs.asks_are_few.Goals as goal

pub returns : goal.returns
returns c = λ limits st st' s verb reply printed p step. step-risen limits st s reply st' verb printed p step
