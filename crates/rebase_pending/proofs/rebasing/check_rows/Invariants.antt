use Rattle.std.proofs.Common.{◌≡◌, List, None, take}
use Rattle.id_groups.specs.Name.{Name, same_name}
use Rattle.commit_graph.specs.World.{Row, World}
use Rattle.change_rules.specs.Rebase.{first_conflict}
use Rattle.rebase_pending.specs.Rebasing.{ReadsFor}
use Rattle.rebase_pending.proofs.rebasing.check_rows.Given as goal

abbrev pub invariant-rows : goal.invariant-rows
invariant-rows l = (w old : World Name) (rows : List (Row Name)) → ReadsFor l.reads w old rows → first_conflict same_name w (take l.i rows) ≡ None
