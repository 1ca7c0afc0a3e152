use Rattle.std.proofs.Common.{length}
use Rattle.dag_run.specs.Demo.{IsReady}
use Rattle.dag_run.proofs.Leading.{AddsOn}
use Rattle.dag_run.proofs.demo.answer_commits.Given as goal

abbrev pub invariant-commits : goal.invariant-commits
invariant-commits g l = record {
  ready : IsReady l.store (g.D.Disk.told l.log);
  adds : AddsOn l.fn.lines l.lines l.store;
}

abbrev pub decreases-commits : goal.decreases-commits
decreases-commits g l = length l.lines
