use Rattle.std.proofs.Common.{arith}
use Rattle.remote_serve.specs.Requests.{ToClone}
use Rattle.remote_serve.specs.Answers.{Cloned}
use Rattle.remote_pipe.proofs.BodiesRead.{reads-unanswered, clone-front, clone-reads}
use Rattle.remote_pipe.proofs.reading.read_clone.Goals as goal

pub returns-in-Some-clause-reads : goal.returns-in-Some-clause-reads
returns-in-Some-clause-reads c = clone-reads c.args.body.now c.in-Some.rest.now c.read_told.result c.in-Some.ensures.some c.read_told.ensures

pub returns-in-None-clause-reads : goal.returns-in-None-clause-reads
returns-in-None-clause-reads c =
    let u = c.unanswered.ensures in
    reads-unanswered ToClone (λ told. Cloned told) c.args.body.now c.unanswered.result u.refused u.none u.which
    (λ answer e f. let r = clone-front c.args.body.now answer (λ i. omega (arith, c.type_inv.body i)) e f in c.in-None.ensures.none r.0 r.1)
