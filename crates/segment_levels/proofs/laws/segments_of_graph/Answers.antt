use Rattle.segment_levels.proofs.ByGraph.{flats-are, maximal-of, cut-of}
use Rattle.segment_levels.proofs.laws.segments_of_graph.Goals as goal

pub returns-clause-by_parents : goal.returns-clause-by_parents
returns-clause-by_parents c = flats-are

pub returns-clause-kept : goal.returns-clause-kept
returns-clause-kept c = maximal-of

pub returns-clause-below : goal.returns-clause-below
returns-clause-below c = cut-of
