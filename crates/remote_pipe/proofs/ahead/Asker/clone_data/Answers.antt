use Rattle.remote_serve.specs.Requests.{ToClone}
use Rattle.remote_serve.specs.Answers.{Cloned}
use Rattle.remote_pipe.specs.Line.{Asks}
use Rattle.remote_pipe.proofs.Passing.{passed-then, passed-err}
use Rattle.remote_pipe.proofs.ahead.Asker.clone_data.Goals as goal

pub returns-in-Ok : goal.returns-in-Ok
returns-in-Ok g c =
    passed-then (Asks ToClone (λ told. Cloned told)) c.args.self.now.queue.items c.args.self.now.line c.pass_all.new.self.queue.items c.pass_all.new.self.line c.clone_data.new.self c.clone_data.result c.in-Ok.field-0 c.in-Ok.ensures c.clone_data.ensures

pub returns-in-Err : goal.returns-in-Err
returns-in-Err g c =
    passed-err (Asks ToClone (λ told. Cloned told)) c.args.self.now.queue.items c.args.self.now.line c.pass_all.new.self.queue.items c.pass_all.new.self.line c.in-Err.fault c.in-Err.ensures
