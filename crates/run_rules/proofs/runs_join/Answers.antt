use Rattle.run_rules.proofs.Runs.{run-append}
use Rattle.run_rules.proofs.runs_join.Goals as goal

pub returns : goal.returns
returns c = λ limits. run-append limits
