use Rattle.span_set.proofs.OneForm.{one-form}
use Rattle.span_set.proofs.laws.one_form.Goals as goal

pub returns : goal.returns
returns c = λ a b ca cb same. one-form a b ca cb (λ z. (same z).0) (λ z. (same z).1)
