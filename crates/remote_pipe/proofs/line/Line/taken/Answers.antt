use Rattle.std.proofs.Common.{arith}
use Rattle.remote_pipe.specs.Line.{Keeps}
use Rattle.remote_pipe.proofs.Asking.{keeps-left, keeps-more}
use Rattle.remote_pipe.proofs.line.Line.taken.Goals as goal

pub returns-then-is_some-clause-keeps : goal.returns-then-is_some-clause-keeps
returns-then-is_some-clause-keeps g c = keeps-left c.args.self.now c.fail.new.self c.fail.ensures.link c.fail.ensures.later

pub returns-in-Err-clause-keeps : goal.returns-in-Err-clause-keeps
returns-in-Err-clause-keeps g c =
    let t = c.in-Err.ensures in
    let f = t.faults in
    let k : Keeps c.args.self.now c.take.new.self = record { served = t.served; put_faults = t.put_faults; take_faults = t.take_faults; faults = omega (arith, f) } in
    keeps-more c.args.self.now c.take.new.self c.stop.new.self k c.stop.ensures.link c.stop.ensures.later
