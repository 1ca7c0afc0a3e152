use Rattle.std.proofs.lemmas.Bool.{false≢true}
use Rattle.std.proofs.Common.{arith, refl}
use Rattle.remote_serve.specs.Requests.{ToRefresh}
use Rattle.remote_serve.specs.Answers.{Refreshed}
use Rattle.remote_pipe.proofs.BodiesRead.{reads-unanswered, refresh-front, refreshed-there}
use Rattle.remote_pipe.proofs.reading.read_refreshed.Goals as goal

pub returns-then-is_only-clause-reads : goal.returns-then-is_only-clause-reads
returns-then-is_only-clause-reads c = (refreshed-there c.args.body.now (c.if-is_only.ensures.0 refl), tt)

pub returns-clause-reads : goal.returns-clause-reads
returns-clause-reads c =
    let u = c.unanswered.ensures in
    reads-unanswered {T = Unit} ToRefresh (λ _. Refreshed) c.args.body.now c.unanswered.result u.refused u.none u.which
    (λ answer e f. false≢true (c.if-is_only.ensures.1 (refresh-front c.args.body.now answer (λ i. omega (arith, c.type_inv.body i)) e f)))
