use Rattle.std.proofs.Common.{arith, sym, ◌∙◌}
use Rattle.std.proofs.lemmas.Bool.{true≢false}
use Rattle.remote_pipe.proofs.BodiesRead.{refusal-there, no-refusal}
use Rattle.remote_pipe.proofs.FitBodies.{names-let, names-barred, refusal-let, refusal-barred}
use Rattle.remote_pipe.proofs.reading.are_fit.Goals as goal

pub returns-in-Some-clause-fit : goal.returns-in-Some-clause-fit
returns-in-Some-clause-fit c = λ t. names-let c.args.body.now c.in-Some.rest.now c.args.most c.in-Some.ensures.some (c.are_names.ensures.0 t)

pub returns-in-Some-clause-unfit : goal.returns-in-Some-clause-unfit
returns-in-Some-clause-unfit c = λ e. names-barred c.args.body.now c.in-Some.rest.now c.args.most c.in-Some.ensures.some (λ h. true≢false (sym (c.are_names.ensures.1 h) ∙ e))

pub returns-in-None-clause-fit : goal.returns-in-None-clause-fit
returns-in-None-clause-fit c = λ t. let r = c.is_refusal.ensures.0 t in refusal-let c.args.body.now c.args.most (refusal-there c.args.body.now r.0 r.1 r.2 r.3)

pub returns-in-None-clause-unfit : goal.returns-in-None-clause-unfit
returns-in-None-clause-unfit c = λ e. refusal-barred c.args.body.now c.args.most (λ i. omega (arith, c.type_inv.body i)) c.in-None.ensures.none
    (no-refusal c.args.body.now (λ i. omega (arith, c.type_inv.body i)) (λ r. true≢false (sym (c.is_refusal.ensures.1 r) ∙ e)))
