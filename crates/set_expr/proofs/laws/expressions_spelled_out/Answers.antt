use Rattle.std.proofs.Common.{refl}
use Rattle.std.specs.Prelude.{codes}
use Rattle.set_expr.proofs.laws.expressions_spelled_out.Goals as goal

pub returns-clause-text : goal.returns-clause-text
returns-clause-text c = (codes "parents(all)", (codes "all", refl, refl), refl)

pub returns-clause-levels : goal.returns-clause-levels
returns-clause-levels c = refl

pub returns-clause-ids : goal.returns-clause-ids
returns-clause-ids c = refl
