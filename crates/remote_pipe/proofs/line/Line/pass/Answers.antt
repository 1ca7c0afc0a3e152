use Rattle.remote_serve.specs.Requests.{ToNames}
use Rattle.remote_pipe.proofs.TakenAhead.{passes-fault, passes-body}
use Rattle.remote_pipe.proofs.line.Line.pass.Goals as goal

pub returns-in-Ok : goal.returns-in-Ok
returns-in-Ok g c = λ x back.
    passes-body x back c.args.count c.in-Ok.body c.deref.result.now c.args.self.now c.taken.new.self c.let_by.new.self c.let_by.result c.deref.ensures.value c.taken.ensures.keeps c.in-Ok.ensures.gets c.let_by.ensures

pub returns-in-Err : goal.returns-in-Err
returns-in-Err g c = λ x back. passes-fault (ToNames x back c.args.count) c.args.self.now c.taken.new.self c.in-Err.fault c.taken.ensures.keeps c.in-Err.ensures.gets
