use Rattle.step_rules.proofs.Kept.{start-is, step-state}
use Rattle.step_rules.proofs.states_kept.Goals as goal

pub returns-clause-start : goal.returns-clause-start
returns-clause-start c = start-is

pub returns-clause-step : goal.returns-clause-step
returns-clause-step c = λ limits st st' s verb reply h v step. step-state limits st s h verb reply st' v step
