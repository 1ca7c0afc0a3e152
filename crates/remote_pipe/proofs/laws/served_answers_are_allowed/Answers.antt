use Rattle.remote_pipe.proofs.Framing.{served-answer}
use Rattle.remote_pipe.proofs.laws.served_answers_are_allowed.Goals as goal

pub returns : goal.returns
returns c = served-answer
