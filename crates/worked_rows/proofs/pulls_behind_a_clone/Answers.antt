use Rattle.worked_rows.proofs.AtPulls.{behind-a-clone, no-one-order}
use Rattle.worked_rows.proofs.pulls_behind_a_clone.Goals as goal

pub returns-clause-pulled : goal.returns-clause-pulled
returns-clause-pulled c = behind-a-clone

pub returns-clause-unlike : goal.returns-clause-unlike
returns-clause-unlike c = no-one-order
