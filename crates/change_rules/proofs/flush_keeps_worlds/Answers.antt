use Rattle.id_groups.specs.Name.{same_name}
use Rattle.id_groups.proofs.Names.{same_name-exact, same_name-self}
use Rattle.change_rules.proofs.Flushes.{flush-world, flush-grows, flush-keeps}
use Rattle.change_rules.proofs.flush_keeps_worlds.Goals as goal

pub returns-clause-world : goal.returns-clause-world
returns-clause-world c = λ w heads h k. flush-world same_name same_name-exact same_name-self w h heads k

pub returns-clause-master : goal.returns-clause-master
returns-clause-master c = λ w heads h k. flush-grows same_name same_name-exact same_name-self w h heads k

pub returns-clause-rows : goal.returns-clause-rows
returns-clause-rows c = λ w heads row h k i. flush-keeps same_name same_name-exact same_name-self w h heads k row i
