use Rattle.std.proofs.Common.{refl}
use Rattle.name_map.proofs.laws.names_spelled_out.Goals as goal

pub returns-clause-places : goal.returns-clause-places
returns-clause-places c = λ a b. refl

pub returns-clause-below : goal.returns-clause-below
returns-clause-below c = λ a b. refl

pub returns-clause-row : goal.returns-clause-row
returns-clause-row c = refl
