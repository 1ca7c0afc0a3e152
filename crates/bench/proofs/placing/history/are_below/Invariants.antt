use Rattle.bench.proofs.Drawn.{IsEnough}
use Rattle.bench.proofs.placing.history.are_below.Given as goal

abbrev pub invariant-parents : goal.invariant-parents
invariant-parents l = IsEnough l.number l.parents l.i
