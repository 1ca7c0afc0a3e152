use Rattle.id_groups.specs.Name.{same_name}
use Rattle.commit_graph.specs.World.{rows_of}
use Rattle.commit_graph.specs.Graph.{graph_of}
use Rattle.plain_query.proofs.Gathering.{AreReached, each}
use Rattle.plain_query.proofs.walks.ancestors_of.Given as goal

-- the set reaches each member, and each member of the rows gone over has led on to its parents
abbrev pub invariant-loop-place : goal.invariant-loop-place
invariant-loop-place l = AreReached each (graph_of same_name l.world) (rows_of l.world) l.set l.place l.members
