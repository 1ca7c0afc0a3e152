use Rattle.ancestor_query.proofs.WindowLemmas.{no-ids}
use Rattle.ancestor_query.proofs.work_list.Window.empty.Goals as goal

pub returns : goal.returns
returns c = no-ids 0
