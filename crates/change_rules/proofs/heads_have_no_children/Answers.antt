use Rattle.change_rules.proofs.Reached.{heads-are}
use Rattle.change_rules.proofs.heads_have_no_children.Goals as goal

pub returns : goal.returns
returns c = heads-are
