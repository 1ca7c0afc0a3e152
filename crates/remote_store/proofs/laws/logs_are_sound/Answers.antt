use Rattle.remote_store.proofs.Sound.{sound-log}
use Rattle.remote_store.proofs.laws.logs_are_sound.Goals as goal

pub returns : goal.returns
returns c = λ r h. sound-log r h
