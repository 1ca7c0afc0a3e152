use Rattle.id_groups.specs.Name.{same_name}
use Rattle.commit_graph.specs.World.{rows_of}
use Rattle.commit_graph.specs.Graph.{graph_of}
use Rattle.plain_query.proofs.Collecting.{AreLed}
use Rattle.plain_query.proofs.walks.descendants_of.Given as goal

-- each member reaches the set, and each of the rows so far with a parent that does is a member
abbrev pub invariant-loop-place : goal.invariant-loop-place
invariant-loop-place l = AreLed (graph_of same_name l.world) (rows_of l.world) l.set l.place l.members
