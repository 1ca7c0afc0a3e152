use Rattle.std.proofs.lemmas.Bool.{false≢true}
use Rattle.std.proofs.Common.{arith, refl, ⊎_elim}
use Rattle.remote_serve.specs.Requests.{ToPath}
use Rattle.remote_serve.specs.Answers.{Led}
use Rattle.remote_pipe.proofs.BodiesRead.{reads-unanswered, path-front, nowhere-there}
use Rattle.remote_pipe.proofs.reading.read_nowhere.Goals as goal

pub returns-then-is_only : goal.returns-then-is_only
returns-then-is_only c = λ heads name. (nowhere-there c.args.body.now (c.if-is_only.ensures.0 refl), tt)

pub returns : goal.returns
returns c =
    let u = c.unanswered.ensures in
    λ heads name. reads-unanswered (ToPath heads name) Led c.args.body.now c.unanswered.result u.refused u.none u.which
    (λ answer e f. ⊎_elim (λ r. c.requires r.0 r.1) (λ e. false≢true (c.if-is_only.ensures.1 e)) (path-front c.args.body.now answer heads name (λ i. omega (arith, c.type_inv.body i)) e f))
