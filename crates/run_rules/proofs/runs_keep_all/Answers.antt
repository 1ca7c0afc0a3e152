use Rattle.run_rules.proofs.Runs.{run-kept}
use Rattle.run_rules.proofs.Starts.{from-start}
use Rattle.run_rules.proofs.runs_keep_all.Goals as goal

pub returns-clause-states : goal.returns-clause-states
returns-clause-states c = run-kept

pub returns-clause-all : goal.returns-clause-all
returns-clause-all c = from-start
