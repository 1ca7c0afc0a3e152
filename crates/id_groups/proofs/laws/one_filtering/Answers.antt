use Rattle.std.proofs.Common.{IsTrue}
use Rattle.id_groups.proofs.Listing.{filtered_once}
use Rattle.id_groups.proofs.laws.one_filtering.Goals as goal

pub returns : goal.returns
returns c = λ holds xs ys zs. filtered_once (λ x. IsTrue (holds x)) xs ys zs
