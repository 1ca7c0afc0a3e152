use Rattle.remote_pipe.proofs.AnswerReads.{one-answer}
use Rattle.remote_pipe.proofs.Framing.{one-framed}
use Rattle.remote_pipe.proofs.laws.answers_are_one.Goals as goal

pub returns-clause-bodies : goal.returns-clause-bodies
returns-clause-bodies c = one-answer

pub returns-clause-frames : goal.returns-clause-frames
returns-clause-frames c = one-framed
