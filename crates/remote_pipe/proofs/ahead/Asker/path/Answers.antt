use Rattle.remote_serve.specs.Requests.{ToPath}
use Rattle.remote_serve.specs.Answers.{Led}
use Rattle.remote_pipe.specs.Line.{Asks}
use Rattle.remote_pipe.proofs.Passing.{passed-then, passed-err}
use Rattle.remote_pipe.proofs.ahead.Asker.path.Goals as goal

pub returns-in-Ok : goal.returns-in-Ok
returns-in-Ok g c =
    passed-then (Asks (ToPath c.args.heads.now c.args.name.now) Led) c.args.self.now.queue.items c.args.self.now.line c.pass_all.new.self.queue.items c.pass_all.new.self.line c.path.new.self c.path.result c.in-Ok.field-0 c.in-Ok.ensures c.path.ensures

pub returns-in-Err : goal.returns-in-Err
returns-in-Err g c =
    passed-err (Asks (ToPath c.args.heads.now c.args.name.now) Led) c.args.self.now.queue.items c.args.self.now.line c.pass_all.new.self.queue.items c.pass_all.new.self.line c.in-Err.fault c.in-Err.ensures
