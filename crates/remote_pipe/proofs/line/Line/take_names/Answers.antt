use Rattle.std.proofs.Common.{length}
use Rattle.remote_serve.specs.Requests.{ToNames}
use Rattle.remote_pipe.proofs.TakenAhead.{takes-fault, takes-body}
use Rattle.remote_pipe.proofs.line.Line.take_names.Goals as goal

pub returns-in-Ok-clause-takes : goal.returns-in-Ok-clause-takes
returns-in-Ok-clause-takes g c = λ x back.
    takes-body (ToNames x back (length c.args.out.now)) c.read_names.new.out c.in-Ok.body c.deref.result.now c.read_names.result c.args.self.now c.taken.new.self c.end.new.self c.end.result
    c.deref.ensures.value c.read_names.ensures.bytes c.taken.ensures.keeps c.in-Ok.ensures.gets (c.read_names.ensures.reads x back) c.read_names.ensures.which c.end.ensures

pub returns-in-Err-clause-takes : goal.returns-in-Err-clause-takes
returns-in-Err-clause-takes g c = λ x back.
    takes-fault (ToNames x back (length c.args.out.now)) c.args.out.now c.args.self.now c.taken.new.self c.in-Err.fault c.taken.ensures.keeps c.in-Err.ensures.gets
