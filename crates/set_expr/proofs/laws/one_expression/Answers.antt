use Rattle.set_expr.proofs.OneSpelling.{one-expression}
use Rattle.set_expr.proofs.laws.one_expression.Goals as goal

pub returns : goal.returns
returns c = one-expression
