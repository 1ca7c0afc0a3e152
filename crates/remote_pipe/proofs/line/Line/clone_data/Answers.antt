use Rattle.remote_serve.specs.Requests.{ToClone}
use Rattle.remote_serve.specs.Answers.{Cloned}
use Rattle.remote_pipe.specs.Peer.{request_frame}
use Rattle.remote_pipe.proofs.Asking.{asks-fault, asks-body}
use Rattle.remote_pipe.proofs.line.Line.clone_data.Goals as goal

pub returns-in-Ok : goal.returns-in-Ok
returns-in-Ok g c =
    asks-body ToClone (λ told. Cloned told) c.in-Ok.body c.deref.result.now c.read_clone.result c.args.self.now c.body.new.self c.end.new.self c.end.result
    tt c.deref.ensures.value c.read_clone.ensures.bytes c.body.ensures.keeps (c.in-Ok.ensures.gets (request_frame ToClone) c.clone_frame.ensures) c.read_clone.ensures.reads c.end.ensures

pub returns-in-Err : goal.returns-in-Err
returns-in-Err g c =
    asks-fault ToClone (λ told. Cloned told) c.args.self.now c.body.new.self c.in-Err.fault tt c.body.ensures.keeps (c.in-Err.ensures.gets (request_frame ToClone) c.clone_frame.ensures)
