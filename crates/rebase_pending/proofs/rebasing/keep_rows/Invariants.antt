use Rattle.std.proofs.Common.{List, take}
use Rattle.id_groups.specs.Name.{Name}
use Rattle.commit_graph.specs.World.{Row, World}
use Rattle.name_map.specs.Added.{Placed}
use Rattle.rebase_pending.specs.Rebasing.{LeftSoFar, ReadsFor, ReadsOn}
use Rattle.rebase_pending.proofs.Rebased.{LeftIn}
use Rattle.rebase_pending.proofs.rebasing.keep_rows.Given as goal

abbrev pub invariant-rows : goal.invariant-rows
invariant-rows l = ((added before : List Placed) (m : ReadsOn l.reads added before) → LeftSoFar added (take l.i m.rows) l.ids.items l.left)
    × ((w old : World Name) (rows : List (Row Name)) → ReadsFor l.reads w old rows → LeftIn w (take l.i rows) l.ids.items l.left)
