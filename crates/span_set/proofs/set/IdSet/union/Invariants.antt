use Rattle.std.proofs.Common.{◌-◌, ◌+◌, ℕ, ◌≤◌, ◌⊎◌, ◌↔◌, length, take}
use Rattle.span_set.specs.Members.{IsMember, IsCanonical}
use Rattle.span_set.proofs.set.IdSet.union.Given as goal

abbrev pub invariant-merge : goal.invariant-merge
invariant-merge l = record {
  left : l.i ≤ length l.left;
  right : l.j ≤ length l.right;
  canonical : IsCanonical l.both;
  members : (x : ℕ) → IsMember l.both x ↔ (IsMember (take l.i l.left) x ⊎ IsMember (take l.j l.right) x);
}

abbrev pub decreases-merge : goal.decreases-merge
decreases-merge l = (length l.left - l.i) + (length l.right - l.j)
