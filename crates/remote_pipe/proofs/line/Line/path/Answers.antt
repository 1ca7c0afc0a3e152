use Rattle.std.proofs.Common.{arith}
use Rattle.remote_serve.specs.Requests.{ToPath}
use Rattle.remote_serve.specs.Answers.{Led}
use Rattle.remote_pipe.specs.Peer.{request_frame}
use Rattle.remote_pipe.proofs.Asking.{asks-fault, asks-body}
use Rattle.remote_pipe.proofs.line.Line.path.Goals as goal

pub returns-in-Ok : goal.returns-in-Ok
returns-in-Ok g c =
    let few = c.if-heads-gt-MOST_HEADS.false in
    asks-body (ToPath c.args.heads.now c.args.name.now) Led c.in-Ok.body c.deref.result.now c.read_path.result c.args.self.now c.body.new.self c.end.new.self c.end.result
    (omega (arith, few), c.names_size.ensures.names, c.name_size.ensures.name) c.deref.ensures.value c.read_path.ensures.bytes c.body.ensures.keeps
    (c.in-Ok.ensures.gets (request_frame (ToPath c.args.heads.now c.args.name.now)) c.path_frame.ensures) (c.read_path.ensures.reads c.args.heads.now c.args.name.now) c.end.ensures

pub returns-in-Err : goal.returns-in-Err
returns-in-Err g c =
    let few = c.if-heads-gt-MOST_HEADS.false in
    asks-fault (ToPath c.args.heads.now c.args.name.now) Led c.args.self.now c.body.new.self c.in-Err.fault (omega (arith, few), c.names_size.ensures.names, c.name_size.ensures.name) c.body.ensures.keeps
    (c.in-Err.ensures.gets (request_frame (ToPath c.args.heads.now c.args.name.now)) c.path_frame.ensures)
