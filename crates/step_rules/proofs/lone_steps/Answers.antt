use Rattle.step_rules.proofs.Lone.{lone-from}
use Rattle.step_rules.proofs.lone_steps.Goals as goal

pub returns : goal.returns
returns c = λ limits st now s verb reply i none empty step. lone-from limits st s none empty verb reply now i step
