use Rattle.program_words.proofs.Exactly.{one-usage, no-usage}
use Rattle.program_words.proofs.laws.usages_are_exact.Goals as goal

pub returns-clause-one : goal.returns-clause-one
returns-clause-one c = one-usage

pub returns-clause-none : goal.returns-clause-none
returns-clause-none c = no-usage
