use Rattle.std.proofs.lemmas.Bool.{false≢true}
use Rattle.std.proofs.Common.{arith, refl}
use Rattle.remote_pipe.proofs.BodiesRead.{refusal-there, no-refusal}
use Rattle.remote_pipe.proofs.reading.unanswered.Goals as goal

pub returns-then-is_refusal-clause-refused : goal.returns-then-is_refusal-clause-refused
returns-then-is_refusal-clause-refused c = λ _. let r = c.if-is_refusal.ensures.0 refl in refusal-there c.args.body.now r.0 r.1 r.2 r.3

pub returns-else-is_refusal-clause-none : goal.returns-else-is_refusal-clause-none
returns-else-is_refusal-clause-none c = λ _. no-refusal c.args.body.now (λ i. omega (arith, c.type_inv.body i)) (λ r. false≢true (c.if-is_refusal.ensures.1 r))
