use Rattle.turn_laws.proofs.Besides.{alone-run, beside-run, turns-alike, stored-differ}
use Rattle.turn_laws.proofs.a_session_beside_another.Goals as goal

pub returns-clause-alone : goal.returns-clause-alone
returns-clause-alone c = alone-run

pub returns-clause-beside : goal.returns-clause-beside
returns-clause-beside c = beside-run

pub returns-clause-alike : goal.returns-clause-alike
returns-clause-alike c = turns-alike

pub returns-clause-differ : goal.returns-clause-differ
returns-clause-differ c = stored-differ
