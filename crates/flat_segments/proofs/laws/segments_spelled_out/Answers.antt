use Rattle.std.proofs.Common.{refl}
use Rattle.flat_segments.proofs.laws.segments_spelled_out.Goals as goal

pub returns-clause-maximal : goal.returns-clause-maximal
returns-clause-maximal c = refl

pub returns-clause-cut : goal.returns-clause-cut
returns-clause-cut c = refl
