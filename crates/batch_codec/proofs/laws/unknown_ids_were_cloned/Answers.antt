use Rattle.batch_codec.proofs.Cloned.{unknown-cloned, heads-cloned}
use Rattle.batch_codec.proofs.laws.unknown_ids_were_cloned.Goals as goal

pub returns-clause-unknown : goal.returns-clause-unknown
returns-clause-unknown c = unknown-cloned

pub returns-clause-heads : goal.returns-clause-heads
returns-clause-heads c = heads-cloned
