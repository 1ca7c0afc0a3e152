use Rattle.std.proofs.Common.{◌≡◌, ◌≤◌, ◌-◌, ◌++◌, ℕ, List, length}
use Rattle.gated_log.proofs.turn.fill_up.Given as goal

abbrev pub invariant-pieces : goal.invariant-pieces
invariant-pieces l = ((more : List ℕ) × (l.bytes.items ≡ l.fn.bytes.items ++ more)) × (length l.bytes.items ≤ l.size)

abbrev pub decreases-pieces : goal.decreases-pieces
decreases-pieces l = l.size - length l.bytes.items
