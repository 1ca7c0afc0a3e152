use Rattle.std.proofs.Common.{[], refl}
use Rattle.plan_rows.proofs.Nothing.{may-plan}
use Rattle.plan_rows.proofs.fresh.count_written.Goals as goal

pub plan_change-requires-clause-tables : goal.plan_change-requires-clause-tables
plan_change-requires-clause-tables c = ([], may-plan _ _ _ [] [] c.empty-tables.ensures c.requires refl)
