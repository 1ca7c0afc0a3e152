use Rattle.commit_graph.specs.World.{rows_of}
use Rattle.plain_query.proofs.Collecting.{AreChosen, HasParentIn}
use Rattle.plain_query.proofs.walks.children_of.Given as goal

-- the members are those of the rows so far with a parent in the set
abbrev pub invariant-loop-place : goal.invariant-loop-place
invariant-loop-place l = AreChosen (rows_of l.world) (HasParentIn l.set) l.place l.members
