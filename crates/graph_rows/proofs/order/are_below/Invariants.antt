use Rattle.graph_rows.proofs.Drawn.{IsEnough}
use Rattle.graph_rows.proofs.order.are_below.Given as goal

abbrev pub invariant-parents : goal.invariant-parents
invariant-parents l = IsEnough l.number l.parents l.i
