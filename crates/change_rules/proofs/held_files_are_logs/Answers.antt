use Rattle.change_rules.proofs.Refusals.{held-is-log}
use Rattle.change_rules.proofs.held_files_are_logs.Goals as goal

pub returns : goal.returns
returns c = held-is-log
