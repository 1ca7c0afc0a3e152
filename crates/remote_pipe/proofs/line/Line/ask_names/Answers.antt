use Rattle.std.proofs.Common.{ℕ, length, take, arith}
use Rattle.remote_serve.specs.Requests.{ToNames}
use Rattle.remote_serve.specs.Answers.{Named}
use Rattle.remote_pipe.specs.Peer.{request_frame}
use Rattle.remote_pipe.proofs.Asking.{asks-fault, asks-body}
use Rattle.remote_pipe.proofs.line.Line.ask_names.Goals as goal

pub returns-in-Ok-clause-asks : goal.returns-in-Ok-clause-asks
returns-in-Ok-clause-asks g c =
    let back = c.ranges.back.fits in
    let few = c.requires.few in
    let some = c.requires.some in
    let request = ToNames c.args.x.now c.args.back (length c.args.out.now) in
    asks-body {T = ℕ} request (λ n. Named (take n c.read_names.new.out)) c.in-Ok.body c.deref.result.now c.read_names.result c.args.self.now c.body.new.self c.end.new.self c.end.result
    (c.name_size.ensures.name, omega (arith, back), some, few) c.deref.ensures.value c.read_names.ensures.bytes c.body.ensures.keeps
    (c.in-Ok.ensures.gets (request_frame request) c.names_frame.ensures) (c.read_names.ensures.reads c.args.x.now c.args.back) c.end.ensures

pub returns-in-Err-clause-asks : goal.returns-in-Err-clause-asks
returns-in-Err-clause-asks g c =
    let back = c.ranges.back.fits in
    let few = c.requires.few in
    let some = c.requires.some in
    let request = ToNames c.args.x.now c.args.back (length c.args.out.now) in
    asks-fault {T = ℕ} request (λ n. Named (take n c.args.out.now)) c.args.self.now c.body.new.self c.in-Err.fault (c.name_size.ensures.name, omega (arith, back), some, few) c.body.ensures.keeps (c.in-Err.ensures.gets (request_frame request) c.names_frame.ensures)
