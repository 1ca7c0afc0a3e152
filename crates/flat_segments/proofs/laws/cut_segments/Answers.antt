use Rattle.std.proofs.Common.{zero-le}
use Rattle.flat_segments.proofs.Graphs.{cut-ids, cut-parents}
use Rattle.flat_segments.proofs.laws.cut_segments.Goals as goal

pub returns-clause-ids : goal.returns-clause-ids
returns-clause-ids c = λ below end segments h le. cut-ids below 0 end segments h zero-le le

pub returns-clause-parents : goal.returns-clause-parents
returns-clause-parents c = λ below end x segments h lt. cut-parents below 0 end x segments h lt
