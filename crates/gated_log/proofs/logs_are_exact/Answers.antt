use Rattle.gated_log.proofs.Reading.{one-log}
use Rattle.gated_log.proofs.Damage.{log-decided, log-or-damaged, one-place}
use Rattle.gated_log.proofs.logs_are_exact.Goals as goal

pub returns-clause-decided : goal.returns-clause-decided
returns-clause-decided c = log-decided

pub returns-clause-one_list : goal.returns-clause-one_list
returns-clause-one_list c = one-log

pub returns-clause-one_place : goal.returns-clause-one_place
returns-clause-one_place c = one-place

pub returns-clause-never_both : goal.returns-clause-never_both
returns-clause-never_both c = log-or-damaged
