use Rattle.std.proofs.Common.{[]}
use Rattle.change_parts.specs.Asked.{MayStore}
use Rattle.plan_rows.proofs.fresh.pending_of.Given as goal

abbrev pub invariant-commits : goal.invariant-commits
invariant-commits l = MayStore l.pending []
