use Rattle.remote_serve.specs.Requests.{ToRefresh}
use Rattle.remote_serve.specs.Answers.{Refreshed}
use Rattle.remote_pipe.specs.Line.{Asks}
use Rattle.remote_pipe.proofs.Passing.{passed-then, passed-err}
use Rattle.remote_pipe.proofs.ahead.Asker.refresh.Goals as goal

pub returns-in-Ok : goal.returns-in-Ok
returns-in-Ok g c =
    passed-then {T = Unit} (Asks ToRefresh (λ _. Refreshed)) c.args.self.now.queue.items c.args.self.now.line c.pass_all.new.self.queue.items c.pass_all.new.self.line c.refresh.new.self c.refresh.result c.in-Ok.field-0 c.in-Ok.ensures c.refresh.ensures

pub returns-in-Err : goal.returns-in-Err
returns-in-Err g c =
    passed-err {T = Unit} (Asks ToRefresh (λ _. Refreshed)) c.args.self.now.queue.items c.args.self.now.line c.pass_all.new.self.queue.items c.pass_all.new.self.line c.in-Err.fault c.in-Err.ensures
