use Rattle.worked_rows.proofs.Serving.{serve-aside}
use Rattle.worked_rows.proofs.AtPulls.{aside-begins-not, behind-a-drop}
use Rattle.worked_rows.proofs.pulls_behind_a_drop.Goals as goal

pub returns-clause-serve : goal.returns-clause-serve
returns-clause-serve c = serve-aside

pub returns-clause-pulled : goal.returns-clause-pulled
returns-clause-pulled c = behind-a-drop

pub returns-clause-unlike : goal.returns-clause-unlike
returns-clause-unlike c = aside-begins-not
