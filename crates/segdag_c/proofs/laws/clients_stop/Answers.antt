use Rattle.segdag_c.proofs.Client.{clients-stop}
use Rattle.segdag_c.proofs.laws.clients_stop.Goals as goal

pub returns : goal.returns
returns c = clients-stop
