use Rattle.std.proofs.Common.{[], ◌∙◌}
use Rattle.plan_rows.proofs.Nothing.{may-plan}
use Rattle.plan_rows.proofs.fresh.planned.Goals as goal

pub plan_change-requires-clause-tables : goal.plan_change-requires-clause-tables
plan_change-requires-clause-tables c = ([], may-plan _ _ _ _ _ c.empty-tables.ensures c.requires.rows (c.deref.ensures.value ∙ c.in_ok-found.ensures))
