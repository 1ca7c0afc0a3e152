use Rattle.run_rules.proofs.GoesOn.{goes-on}
use Rattle.run_rules.proofs.stopped_goes_on.Goals as goal

pub returns : goal.returns
returns c = goes-on
