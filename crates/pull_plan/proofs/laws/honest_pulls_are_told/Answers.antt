use Rattle.pull_plan.proofs.HonestTold.{told-again, told-agrees, cloned-within}
use Rattle.pull_plan.proofs.laws.honest_pulls_are_told.Goals as goal

pub returns-clause-rows : goal.returns-clause-rows
returns-clause-rows c = told-again

pub returns-clause-agree : goal.returns-clause-agree
returns-clause-agree c = told-agrees

pub returns-clause-within : goal.returns-clause-within
returns-clause-within c = cloned-within
