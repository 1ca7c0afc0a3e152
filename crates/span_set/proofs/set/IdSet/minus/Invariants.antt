use Rattle.std.proofs.Common.{◌-◌, ◌+◌, ◌^◌, ℕ, ◌<◌, ◌≤◌, ◌⊎◌, ◌↔◌, length, drop}
use Rattle.span_set.specs.Members.{IsMember, IsCanonical}
use Rattle.span_set.proofs.set.IdSet.minus.Given as goal

abbrev pub invariant-walk : goal.invariant-walk
invariant-walk l = record {
  left : l.i ≤ length l.from;
  right : l.j ≤ length l.cut;
  bound : l.end ≤ 2 ^ 57;
  canonical : IsCanonical l.kept;
  members : (x : ℕ) → (IsMember l.from x × (IsMember l.cut x → ⊥)) ↔ (IsMember l.kept x ⊎ (IsMember (drop l.i l.from) x × (IsMember (drop l.j l.cut) x → ⊥) × (x < l.end)));
  under : (x : ℕ) → IsMember (drop l.j l.cut) x → x < l.end;
}

abbrev pub decreases-walk : goal.decreases-walk
decreases-walk l = (length l.from - l.i) + (length l.cut - l.j)
