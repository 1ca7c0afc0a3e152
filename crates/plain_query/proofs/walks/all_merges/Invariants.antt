use Rattle.std.proofs.Common.{◌≤◌, length}
use Rattle.id_groups.specs.Name.{Name}
use Rattle.commit_graph.specs.World.{Row, rows_of}
use Rattle.plain_query.proofs.Collecting.{AreChosen}
use Rattle.plain_query.proofs.walks.all_merges.Given as goal

-- the members are those of the rows so far with two parents or more
abbrev pub invariant-loop-place : goal.invariant-loop-place
invariant-loop-place l = AreChosen (rows_of l.world) (λ (row : Row Name). 2 ≤ length row.parents) l.place l.members
