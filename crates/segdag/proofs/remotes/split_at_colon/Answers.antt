use Rattle.std.proofs.Common.{arith}
use Rattle.std.proofs.lemmas.Str.Pattern.{split_once_first}
use Rattle.segdag.proofs.PipeWords.{colon-some, colon-none}
use Rattle.segdag.proofs.remotes.split_at_colon.Goals as goal

pub returns-clause-some : goal.returns-clause-some
returns-clause-some c = colon-some c.args.text.now c.split_once.result (split_once_first 58 c.args.text.now c.split_once.result c.split_once.ensures.cases (omega arith))

pub returns-clause-none : goal.returns-clause-none
returns-clause-none c = colon-none c.args.text.now c.split_once.result (split_once_first 58 c.args.text.now c.split_once.result c.split_once.ensures.cases (omega arith))
