use Rattle.segdag.proofs.answer.Goals as goal

pub returns : goal.returns
returns g c = (c.run_mode.result.changes, c.run_mode.ensures)
