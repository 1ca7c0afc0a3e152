use Rattle.std.proofs.Common.{◌-◌, length}
use Rattle.id_groups.specs.Lists.{IsIn}
use Rattle.segment_codec.specs.Lent.{segment_of, parents_left}
use Rattle.ancestor_query.proofs.jump.may_begin_lower.Given as goal

abbrev pub invariant-parents : goal.invariant-parents
invariant-parents l = IsIn ((segment_of l.segment).low - 1) (segment_of l.segment).parents → IsIn ((segment_of l.segment).low - 1) (parents_left l.rest)

abbrev pub decreases-parents : goal.decreases-parents
decreases-parents l = length (parents_left l.rest)
