use Rattle.run_rules.proofs.Reopening.{begins, begins-loading}
use Rattle.run_rules.proofs.stopped_runs_begin.Goals as goal

pub returns-clause-loading : goal.returns-clause-loading
returns-clause-loading c = begins-loading

pub returns-clause-loaded : goal.returns-clause-loaded
returns-clause-loaded c = begins
