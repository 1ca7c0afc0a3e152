use Rattle.id_groups.specs.Name.{same_name}
use Rattle.commit_graph.specs.World.{rows_of}
use Rattle.commit_graph.specs.Graph.{graph_of}
use Rattle.plain_query.proofs.Gathering.{AreParents}
use Rattle.plain_query.proofs.walks.parents_of.Given as goal

-- the members are the parents of those commits of the rows so far that are in the set
abbrev pub invariant-loop-place : goal.invariant-loop-place
invariant-loop-place l = AreParents (graph_of same_name l.world) (rows_of l.world) l.set l.place l.members
