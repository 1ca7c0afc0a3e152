use Rattle.std.specs.Prelude.{⊤}
use Rattle.segdag_c.proofs.Coded.{lines-keep, query-closed, query-codes}
use Rattle.segdag_c.proofs.laws.codes_tell.Goals as goal

pub returns-clause-closed : goal.returns-clause-closed
returns-clause-closed c = λ old new code s text h. query-closed old new code s text (λ answer. ⊤) h

pub returns-clause-causes : goal.returns-clause-causes
returns-clause-causes c = λ old new code s text h. query-codes old new code s text (λ answer. ⊤) h

pub returns-clause-lines : goal.returns-clause-lines
returns-clause-lines c = lines-keep
