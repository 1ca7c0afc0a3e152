use Rattle.std.proofs.Common.{refl}
use Rattle.remote_pipe.proofs.line.Line.let_by.Goals as goal

pub returns : goal.returns
returns g c =
    let s = c.stop.ensures in
    let f = s.failed (λ e. absurd cc) in
    (c.if-are_fit.ensures.unfit refl, s.link, f.0, f.1, s.later, s.stopped)
