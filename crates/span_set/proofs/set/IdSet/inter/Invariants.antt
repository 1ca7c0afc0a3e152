use Rattle.std.proofs.Common.{◌-◌, ◌+◌, ℕ, ◌≤◌, ◌⊎◌, ◌↔◌, length, drop}
use Rattle.span_set.specs.Members.{IsMember, IsCanonical}
use Rattle.span_set.proofs.set.IdSet.inter.Given as goal

abbrev pub invariant-walk : goal.invariant-walk
invariant-walk l = record {
  left : l.i ≤ length l.left;
  right : l.j ≤ length l.right;
  canonical : IsCanonical l.both;
  members : (x : ℕ) → (IsMember l.left x × IsMember l.right x) ↔ (IsMember l.both x ⊎ (IsMember (drop l.i l.left) x × IsMember (drop l.j l.right) x));
}

abbrev pub decreases-walk : goal.decreases-walk
decreases-walk l = (length l.left - l.i) + (length l.right - l.j)
