use Rattle.segment_codec.specs.Lent.{segment_of, parents_left}
use Rattle.range_query.proofs.FallLemmas.{Pushing}
use Rattle.range_query.proofs.downward.push_parents.Given as goal

abbrev pub invariant-push : goal.invariant-push
invariant-push l = Pushing l.fn.near l.fn.far (segment_of l.fn.segment).parents (parents_left l.parent-iterator) l.near l.far l.fn.ways.least l.fn.ways.end l.more.least l.more.end
