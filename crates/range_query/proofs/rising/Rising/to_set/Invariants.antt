use Rattle.std.proofs.Common.{ℕ, ◌↔◌, drop}
use Rattle.span_set.specs.Members.{IsMember, IsCanonical}
use Rattle.range_query.proofs.rising.Rising.to_set.Given as goal

abbrev pub invariant-down : goal.invariant-down
invariant-down l = record {
  canonical : IsCanonical l.set;
  members : (x : ℕ) → IsMember l.set x ↔ IsMember (drop l.i l.self-inside.spans.items) x;
}
