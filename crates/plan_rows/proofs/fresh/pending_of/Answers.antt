use Rattle.plan_rows.proofs.Nothing.{no-rows}
use Rattle.plan_rows.proofs.fresh.pending_of.Goals as goal

pub commits-init : goal.commits-init
commits-init c = no-rows c.empty-pending.result c.empty-pending.ensures.rows c.empty-pending.ensures.first
