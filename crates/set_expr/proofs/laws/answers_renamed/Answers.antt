use Rattle.set_expr.proofs.Renamings.{answer-agree}
use Rattle.set_expr.proofs.laws.answers_renamed.Goals as goal

pub returns : goal.returns
returns c = λ f g h e ids r cg ch. answer-agree f g h r cg ch e ids
