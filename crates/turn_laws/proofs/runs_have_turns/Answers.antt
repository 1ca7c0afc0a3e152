use Rattle.turn_laws.proofs.Turning.{run-turned, run-back, run-turns}
use Rattle.turn_laws.proofs.runs_have_turns.Goals as goal

pub returns-clause-turned : goal.returns-clause-turned
returns-clause-turned c = run-turned

pub returns-clause-back : goal.returns-clause-back
returns-clause-back c = run-back

pub returns-clause-steps : goal.returns-clause-steps
returns-clause-steps c = run-turns
