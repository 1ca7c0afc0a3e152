use Rattle.id_groups.specs.Name.{same_name}
use Rattle.id_groups.proofs.Names.{same_name-exact, same_name-self}
use Rattle.set_expr.proofs.Worlds.{world-answer}
use Rattle.set_expr.proofs.laws.answers_computed.Goals as goal

pub returns : goal.returns
returns c = world-answer same_name same_name-exact same_name-self
