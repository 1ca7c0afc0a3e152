use Rattle.set_expr.proofs.PutIds.{with-renamed}
use Rattle.set_expr.proofs.laws.ids_for_names.Goals as goal

pub returns : goal.returns
returns c = λ f e. with-renamed f e
