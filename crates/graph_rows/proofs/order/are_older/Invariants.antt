use Rattle.std.proofs.Common.{ℕ, ◌<◌, [], get_or}
use Rattle.assign_ids.specs.Numbers.{AreBelow, others_of}
use Rattle.graph_rows.proofs.order.are_older.Given as goal

abbrev pub invariant-rows : goal.invariant-rows
invariant-rows g l = (k : ℕ) → k < l.number → AreBelow k (others_of (get_or l.rows k []))
