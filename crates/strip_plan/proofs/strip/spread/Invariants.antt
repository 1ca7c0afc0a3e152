use Rattle.strip_plan.proofs.Spreading.{SpreadSoFar}
use Rattle.strip_plan.proofs.strip.spread.Given as goal

abbrev pub invariant-marks : goal.invariant-marks
invariant-marks l = SpreadSoFar l.graph l.initial.marks.items l.marks.items l.k
