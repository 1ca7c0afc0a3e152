use Rattle.std.proofs.Common.{[], take}
use Rattle.std.specs.List.{AllByRecursion}
use Rattle.id_groups.specs.Name.{IsName}
use Rattle.commit_graph.specs.World.{IsHistory, names_of}
use Rattle.commit_graph.proofs.world.are_history.Given as goal

-- the rows so far are a history, with names
abbrev pub invariant-loop-place : goal.invariant-loop-place
invariant-loop-place l = IsHistory [] (take l.place l.rows) × AllByRecursion IsName (names_of (take l.place l.rows))
