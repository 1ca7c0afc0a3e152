use Rattle.id_groups.specs.Name.{same_name}
use Rattle.commit_graph.specs.Graph.{graph_of}
use Rattle.plain_query.proofs.Collecting.{AreShared}
use Rattle.plain_query.proofs.walks.common_of.Given as goal

-- the members are what some name reaches and each of those so far
abbrev pub invariant-loop-name : goal.invariant-loop-name
invariant-loop-name l = AreShared (graph_of same_name l.world) l.set l.name-index l.members
