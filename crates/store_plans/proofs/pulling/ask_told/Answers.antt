use Rattle.store_plans.proofs.pulling.ask_told.Goals as goal

pub returns-in-Ok-clause-fits : goal.returns-in-Ok-clause-fits
returns-in-Ok-clause-fits g c = let a = c.in-Ok.ensures.asked in (a.right.unbroken, a.right.count)
