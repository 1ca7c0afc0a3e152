use Rattle.std.proofs.Common.{ℕ, ◌↔◌, length}
use Rattle.id_groups.specs.Lists.{IsIn}
use Rattle.segment_codec.specs.Lent.{segment_of, parents_left}
use Rattle.span_set.specs.Members.{IsMember}
use Rattle.range_query.specs.Parts.{HasParentIn}
use Rattle.range_query.proofs.Climbing.{Climb}
use Rattle.range_query.proofs.child_walk.has_parent_between.Given as goal

abbrev pub invariant-parents : goal.invariant-parents
invariant-parents l = record {
  climb : Climb (parents_left l.rest);
  same : ((p : ℕ) × IsIn p (parents_left l.rest) × IsMember l.set p) ↔ HasParentIn l.set (segment_of l.fn.segment);
}

abbrev pub decreases-parents : goal.decreases-parents
decreases-parents l = length (parents_left l.rest)
