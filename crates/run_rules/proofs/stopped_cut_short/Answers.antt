use Rattle.run_rules.proofs.GoesOn.{cut-short}
use Rattle.run_rules.proofs.stopped_cut_short.Goals as goal

pub returns : goal.returns
returns c = cut-short
