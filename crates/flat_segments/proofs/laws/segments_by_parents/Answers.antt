use Rattle.flat_segments.proofs.ByParentsLemmas.{one-list, maximal-are, cut-are}
use Rattle.flat_segments.proofs.laws.segments_by_parents.Goals as goal

pub returns-clause-one : goal.returns-clause-one
returns-clause-one c = one-list

pub returns-clause-maximal : goal.returns-clause-maximal
returns-clause-maximal c = maximal-are

pub returns-clause-cut : goal.returns-clause-cut
returns-clause-cut c = cut-are
