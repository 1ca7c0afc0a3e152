use Rattle.change_rules.proofs.Relation.{clones-are}
use Rattle.change_rules.proofs.clone_data_is_one.Goals as goal

pub returns : goal.returns
returns c = clones-are
