use Rattle.step_rules.proofs.Standing.{start-stands}
use Rattle.step_rules.proofs.loaded_stores_stand.Goals as goal

pub returns : goal.returns
returns c = start-stands
