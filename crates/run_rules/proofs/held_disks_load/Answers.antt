use Rattle.change_rules.proofs.Refusals.{held-is-log}
use Rattle.run_rules.proofs.held_disks_load.Goals as goal

pub returns : goal.returns
returns c = λ limit w payloads io old new end hold r e. held-is-log limit old.bytes payloads w hold (r.cause e).0
