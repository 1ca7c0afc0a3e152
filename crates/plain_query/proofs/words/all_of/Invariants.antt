use Rattle.commit_graph.specs.World.{rows_of}
use Rattle.plain_query.proofs.Gathering.{AreNamesOf}
use Rattle.plain_query.proofs.words.all_of.Given as goal

-- the members are the commits of the rows so far
abbrev pub invariant-loop-place : goal.invariant-loop-place
invariant-loop-place l = AreNamesOf (rows_of l.world) l.place l.members
