use Rattle.id_groups.specs.Name.{same_name}
use Rattle.id_groups.proofs.Names.{same_name-exact, same_name-self}
use Rattle.commit_graph.proofs.Histories.{history-front}
use Rattle.std.proofs.Common.{[]}
use Rattle.change_rules.proofs.Changed.{pull-world}
use Rattle.change_rules.proofs.pull_keeps_worlds.Goals as goal

pub returns : goal.returns
returns c = λ w r h k. pull-world same_name same_name-exact same_name-self w r h (history-front [] r.master r.others k)
