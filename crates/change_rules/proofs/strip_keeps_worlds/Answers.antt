use Rattle.id_groups.specs.Name.{same_name}
use Rattle.id_groups.proofs.Names.{same_name-exact, same_name-self}
use Rattle.change_rules.proofs.Changed.{strip-world}
use Rattle.change_rules.proofs.Strips.{strip-takes}
use Rattle.change_rules.proofs.strip_keeps_worlds.Goals as goal

pub returns-clause-world : goal.returns-clause-world
returns-clause-world c = λ w names h. strip-world same_name same_name-exact same_name-self w h names

pub returns-clause-taken : goal.returns-clause-taken
returns-clause-taken c = λ w names row h i. strip-takes w h names row i
