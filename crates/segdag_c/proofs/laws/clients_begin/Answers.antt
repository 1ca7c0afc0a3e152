use Rattle.segdag_c.proofs.Client.{client-begins}
use Rattle.segdag_c.proofs.laws.clients_begin.Goals as goal

pub returns : goal.returns
returns c = client-begins
