use Rattle.std.proofs.Common.{ℕ, ◌≤◌, ◌^◌, drop}
use Rattle.std.specs.Prelude.{◌↔◌}
use Rattle.assign_ids.specs.Numbers.{AreBelow}
use Rattle.assign_ids.proofs.walk.size_above.Given as goal

abbrev pub invariant-heads : goal.invariant-heads
invariant-heads l = record {
  rest : (n : ℕ) → AreBelow n l.heads ↔ ((l.size ≤ n) × AreBelow n (drop l.head-index l.heads));
  small : l.size ≤ 2 ^ 32;
}
