use Rattle.batch_codec.proofs.Payloads.{one-payload}
use Rattle.batch_codec.proofs.laws.payloads_are_spelled.Goals as goal

pub returns-clause-one : goal.returns-clause-one
returns-clause-one c = one-payload
