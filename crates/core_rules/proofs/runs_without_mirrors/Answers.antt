use Rattle.core_rules.proofs.Mirrorless.{mirrorless}
use Rattle.core_rules.proofs.runs_without_mirrors.Goals as goal

pub returns : goal.returns
returns c = mirrorless
