use Rattle.std.proofs.Common.{map, take}
use Rattle.dag_run.specs.Demo.{IsReady}
use Rattle.dag_run.proofs.Leading.{AsksOn}
use Rattle.dag_run.proofs.demo.ask_all.Given as goal

abbrev pub invariant-lines : goal.invariant-lines
invariant-lines g l = record {
  ready : IsReady l.store (g.D.Disk.told l.log);
  asks : AsksOn l.fn.store (map (λ line. line.items) (take l.line-index l.lines)) l.store l.replies.taken;
}
