use Rattle.std.proofs.Common.{ap}
use Rattle.outside.specs.Parts.{Cut}
use Rattle.outside.proofs.PartsLemmas.{cut-part, split-rest}
use Rattle.outside.proofs.parts_are_cut.Goals as goal

pub returns-clause-part : goal.returns-clause-part
returns-clause-part c = λ mark part rest h. ap (λ (t : Cut). t.parts) (cut-part mark part rest h)

pub returns-clause-rest : goal.returns-clause-rest
returns-clause-rest c = λ mark bytes h. split-rest mark bytes h
