use Rattle.segdag_c.proofs.sizes.reload_in.Goals as goal

pub returns-in-Ok-clause-does : goal.returns-in-Ok-clause-does
returns-in-Ok-clause-does c = (c.in-Ok.ensures.alone, c.in-Ok.ensures.step, c.in-Ok.ensures.asks)

pub returns-in-Err-clause-does : goal.returns-in-Err-clause-does
returns-in-Err-clause-does c = (c.in-Err.ensures.refused, c.in-Err.ensures.step, c.in-Err.ensures.asks)
