use Rattle.remote_pipe.proofs.Servers.{answer-brings, answer-serves, answers-bring}
use Rattle.remote_pipe.proofs.laws.servers_are_peers.Goals as goal

pub returns-clause-answer : goal.returns-clause-answer
returns-clause-answer c = answer-brings

pub returns-clause-request : goal.returns-clause-request
returns-clause-request c = answer-serves

pub returns-clause-run : goal.returns-clause-run
returns-clause-run c = λ limit io m n a. answers-bring m n a.bodies a.answers a.answered
