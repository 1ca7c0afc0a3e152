use Rattle.gated_log.proofs.Places.{payload-stands, length-log}
use Rattle.gated_log.proofs.payloads_stand.Goals as goal

pub returns-clause-place : goal.returns-clause-place
returns-clause-place c = payload-stands

pub returns-clause-size : goal.returns-clause-size
returns-clause-size c = length-log
