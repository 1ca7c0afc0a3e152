use Rattle.segdag_c.proofs.Client.{clients-run}
use Rattle.segdag_c.proofs.laws.clients_run.Goals as goal

pub returns : goal.returns
returns c = clients-run
