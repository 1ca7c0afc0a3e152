use Rattle.bench.proofs.Building.{Built}
use Rattle.bench.proofs.graph.written.Given as goal

abbrev pub invariant-records : goal.invariant-records
invariant-records l = Built l.records.items l.k
