use Rattle.std.proofs.Common.{refl}
use Rattle.name_index.specs.Filter.{word_for}
use Rattle.name_index.proofs.filter.word_for.Goals as goal

pub returns : goal.returns
unfolding word_for
returns c = refl
