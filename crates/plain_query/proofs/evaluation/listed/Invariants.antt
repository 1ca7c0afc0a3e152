use Rattle.id_groups.specs.Lists.{IsFiltered}
use Rattle.commit_graph.specs.World.{rows_of}
use Rattle.plain_query.specs.Members.{among}
use Rattle.plain_query.proofs.Filtering.{down_to}
use Rattle.plain_query.proofs.evaluation.listed.Given as goal

-- the names are those of members among the rows gone over
abbrev pub invariant-loop-place : goal.invariant-loop-place
invariant-loop-place l = IsFiltered (among l.set) (down_to (rows_of l.world) l.place) l.names.items
