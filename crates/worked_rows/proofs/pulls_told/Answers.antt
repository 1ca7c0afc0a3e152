use Rattle.std.proofs.Common.{refl}
use Rattle.worked_rows.proofs.Pulling.{taken_state, refused_state, takes, refuses}
use Rattle.worked_rows.proofs.pulls_told.Goals as goal

pub returns-clause-taken : goal.returns-clause-taken
returns-clause-taken c = (taken_state, (taken_state, takes, refl), refl, refl)

pub returns-clause-refused : goal.returns-clause-refused
returns-clause-refused c = (refused_state, (refused_state, refuses, refl), refl)
