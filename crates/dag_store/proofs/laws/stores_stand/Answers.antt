use Rattle.dag_store.proofs.Showing.{shown-stands}
use Rattle.dag_store.proofs.laws.stores_stand.Goals as goal

pub returns : goal.returns
returns c = shown-stands
