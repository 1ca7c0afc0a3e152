use Rattle.run_rules.proofs.Matched.{run-answered}
use Rattle.run_rules.proofs.runs_are_answered.Goals as goal

pub returns : goal.returns
returns c = λ limits st st' lines replies n run h i. run-answered limits lines st st' replies n run h i
