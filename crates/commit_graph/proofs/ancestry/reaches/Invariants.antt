use Rattle.std.proofs.Common.{take}
use Rattle.id_groups.specs.Name.{same_name}
use Rattle.commit_graph.specs.World.{rows_of}
use Rattle.commit_graph.specs.Graph.{graph_of}
use Rattle.commit_graph.proofs.Leading.{AreLeading}
use Rattle.commit_graph.proofs.ancestry.reaches.Given as goal

-- the names so far are those among the rows so far that reach the target
abbrev pub invariant-loop-place : goal.invariant-loop-place
invariant-loop-place l = AreLeading (graph_of same_name l.world) (take l.place (rows_of l.world)) l.target l.leading.items
