use Rattle.remote_serve.specs.Requests.{ToRefresh}
use Rattle.remote_serve.specs.Answers.{Refreshed}
use Rattle.remote_pipe.specs.Peer.{request_frame}
use Rattle.remote_pipe.proofs.Asking.{asks-fault, asks-body}
use Rattle.remote_pipe.proofs.line.Line.refresh.Goals as goal

pub returns-in-Ok : goal.returns-in-Ok
returns-in-Ok g c =
    asks-body {T = Unit} ToRefresh (λ _. Refreshed) c.in-Ok.body c.deref.result.now c.read_refreshed.result c.args.self.now c.body.new.self c.end.new.self c.end.result
    tt c.deref.ensures.value c.read_refreshed.ensures.bytes c.body.ensures.keeps (c.in-Ok.ensures.gets (request_frame ToRefresh) c.refresh_frame.ensures) c.read_refreshed.ensures.reads c.end.ensures

pub returns-in-Err : goal.returns-in-Err
returns-in-Err g c =
    asks-fault {T = Unit} ToRefresh (λ _. Refreshed) c.args.self.now c.body.new.self c.in-Err.fault tt c.body.ensures.keeps (c.in-Err.ensures.gets (request_frame ToRefresh) c.refresh_frame.ensures)
