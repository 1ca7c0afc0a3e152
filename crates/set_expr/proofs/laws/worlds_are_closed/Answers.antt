use Rattle.set_expr.proofs.Worlds.{world-closed}
use Rattle.set_expr.proofs.laws.worlds_are_closed.Goals as goal

pub returns : goal.returns
returns c = world-closed
