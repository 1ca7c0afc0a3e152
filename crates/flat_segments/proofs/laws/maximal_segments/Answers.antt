use Rattle.flat_segments.proofs.Graphs.{maximal-ids, maximal-parents, maximal-apart}
use Rattle.flat_segments.proofs.laws.maximal_segments.Goals as goal

pub returns-clause-ids : goal.returns-clause-ids
returns-clause-ids c = maximal-ids

pub returns-clause-parents : goal.returns-clause-parents
returns-clause-parents c = maximal-parents

pub returns-clause-apart : goal.returns-clause-apart
returns-clause-apart c = maximal-apart
