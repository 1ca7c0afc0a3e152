use Rattle.set_query.proofs.Ids.{table-closed}
use Rattle.set_query.proofs.laws.tables_are_closed.Goals as goal

pub returns : goal.returns
returns c = table-closed
