use Rattle.std.proofs.Common.{arith, ℕ, length, take}
use Rattle.remote_serve.specs.Requests.{ToNames}
use Rattle.remote_serve.specs.Answers.{Named}
use Rattle.remote_pipe.proofs.BodiesRead.{reads-unanswered, names-front, names-reads}
use Rattle.remote_pipe.proofs.reading.read_names.Goals as goal

pub returns-in-Some-clause-reads : goal.returns-in-Some-clause-reads
returns-in-Some-clause-reads c = names-reads c.args.body.now c.in-Some.rest.now _ _ c.read_named.result c.counted.result c.in-Some.ensures.some c.read_named.ensures.none c.read_named.ensures.count c.read_named.ensures.named c.counted.ensures

pub returns-in-None-clause-reads : goal.returns-in-None-clause-reads
returns-in-None-clause-reads c =
    let u = c.unanswered.ensures in
    λ x back. reads-unanswered {T = ℕ} (ToNames x back (length c.args.out.now)) (λ n. Named (take n c.args.out.now)) c.args.body.now c.unanswered.result u.refused u.none u.which
    (λ answer e f. let r = names-front c.args.body.now answer x back (length c.args.out.now) (λ i. omega (arith, c.type_inv.body i)) e f in c.in-None.ensures.none r.0 r.1)
