use Rattle.remote_store.proofs.Honest.{honest-log}
use Rattle.remote_store.proofs.laws.logs_are_honest.Goals as goal

pub returns : goal.returns
returns c = λ payloads w bytes r e h lazy. honest-log payloads w bytes r e h lazy
