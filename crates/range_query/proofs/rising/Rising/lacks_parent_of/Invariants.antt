use Rattle.std.proofs.Common.{ℕ, ◌≤◌, ◌↔◌, length}
use Rattle.id_groups.specs.Lists.{IsIn}
use Rattle.segment_codec.specs.Lent.{segment_of, parents_left}
use Rattle.span_set.specs.Members.{IsMember}
use Rattle.range_query.specs.Parts.{LacksParent}
use Rattle.range_query.proofs.rising.Rising.lacks_parent_of.Given as goal

abbrev pub invariant-parents : goal.invariant-parents
invariant-parents l = ((p : ℕ) × IsIn p (parents_left l.rest) × (l.lowest ≤ p) × (IsMember l.self p → ⊥)) ↔ LacksParent l.self l.lowest (segment_of l.fn.segment)

abbrev pub decreases-parents : goal.decreases-parents
decreases-parents l = length (parents_left l.rest)
