use Rattle.change_rules.proofs.Reached.{all-reached}
use Rattle.change_rules.proofs.heads_reach_all.Goals as goal

pub returns : goal.returns
returns c = all-reached
