use Rattle.step_rules.proofs.Isolated.{isolated}
use Rattle.step_rules.proofs.isolation_law.Goals as goal

pub returns : goal.returns
returns c = isolated
