use Rattle.std.proofs.lemmas.Bool.{false≢true}
use Rattle.remote_pipe.proofs.BodiesRead.{named-none}
use Rattle.remote_pipe.proofs.FitBodies.{few-names, names-few}
use Rattle.remote_pipe.proofs.reading.are_names.Goals as goal

pub returns-in-Some : goal.returns-in-Some
returns-in-Some c =
    let e = c.in-Some.ensures.exact in (
      λ t. (let r = c.are_so_many.ensures.0 t in few-names c.args.bytes.now c.in-Some.rest.now c.in-Some.count c.args.most e r.0 r.1),
      λ h. c.are_so_many.ensures.1 (names-few c.args.bytes.now c.in-Some.rest.now c.in-Some.count c.args.most e h),
    )

pub returns-in-None : goal.returns-in-None
returns-in-None c = (λ t. absurd (false≢true t), λ h. absurd (named-none c.args.bytes.now h.0 c.in-None.ensures.exact h.2))
