use Rattle.id_groups.proofs.Listing.{filtered_once}
use Rattle.set_expr.specs.Meaning.{IsMember}
use Rattle.set_expr.proofs.laws.one_answer.Goals as goal

pub returns : goal.returns
returns c = λ g e a b. filtered_once (IsMember g e) g.down a b
