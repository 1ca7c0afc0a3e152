use Rattle.std.proofs.Common.{[], None, replicate, ◌∙◌, ap}
use Rattle.plan_rows.proofs.Nothing.{may-rebase}
use Rattle.plan_rows.proofs.fresh.are_left_on.Goals as goal

pub rebase-requires : goal.rebase-requires
rebase-requires c = ([], [], may-rebase _ _ _ _ _ c.requires.tables (c.newest-base.ensures [] c.requires.tables tt) c.requires.rows (c.deref.ensures.value ∙ c.in_ok-found.ensures ∙ ap (λ n. replicate n None) (c.len.ensures.len c.requires.rows.rows c.requires.rows.held)))
