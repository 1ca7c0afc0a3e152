use Rattle.run_rules.proofs.AtPulls.{begin-at-pulls}
use Rattle.run_rules.proofs.mirrors_begin_at_pulls.Goals as goal

pub returns : goal.returns
returns c = begin-at-pulls
