use Rattle.call_disk.proofs.Atomic.{atomic-ends, atomic-told, stops-either}
use Rattle.call_disk.proofs.all_or_none_is_told.Goals as goal

pub returns-clause-told : goal.returns-clause-told
returns-clause-told c = atomic-told

pub returns-clause-ends : goal.returns-clause-ends
returns-clause-ends c = atomic-ends

pub returns-clause-stops : goal.returns-clause-stops
returns-clause-stops c = stops-either
