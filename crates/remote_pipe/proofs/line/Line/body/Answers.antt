use Rattle.remote_pipe.proofs.Asking.{keeps-left}
use Rattle.remote_pipe.proofs.line.Line.body.Goals as goal

pub returns-then-is_some-clause-keeps : goal.returns-then-is_some-clause-keeps
returns-then-is_some-clause-keeps g c = keeps-left c.args.self.now c.fail.new.self c.fail.ensures.link c.fail.ensures.later
