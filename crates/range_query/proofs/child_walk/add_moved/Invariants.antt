use Rattle.std.proofs.Common.{ℕ, ◌≤◌, ◌-◌, ◌⊎◌, ◌↔◌, length, drop}
use Rattle.segment_codec.specs.Lent.{segment_of}
use Rattle.span_set.specs.Members.{IsMember, IsCanonical}
use Rattle.range_query.specs.Parts.{IsMoved}
use Rattle.range_query.proofs.child_walk.add_moved.Given as goal

-- what is to be added, of the spans from `at` on, is added or is still to be added
abbrev pub invariant-pieces : goal.invariant-pieces
invariant-pieces l = record {
  within : l.i ≤ length l.spans;
  canonical : IsCanonical l.fn.answer → IsCanonical l.answer;
  members : (x : ℕ) → (IsMember l.fn.answer x ⊎ IsMoved (drop l.at l.spans) (segment_of l.fn.segment) x)
      ↔ (IsMember l.answer x ⊎ IsMoved (drop l.i l.spans) (segment_of l.fn.segment) x);
}

abbrev pub decreases-pieces : goal.decreases-pieces
decreases-pieces l = length l.spans - l.i
