use Rattle.id_groups.specs.Name.{same_name}
use Rattle.id_groups.proofs.Names.{same_name-exact, same_name-self}
use Rattle.change_rules.proofs.Changed.{rebase-lossless}
use Rattle.change_rules.proofs.rebase_keeps_worlds.Goals as goal

pub returns : goal.returns
returns c = λ w base pending h k e. rebase-lossless same_name same_name-exact same_name-self w base pending h k e
