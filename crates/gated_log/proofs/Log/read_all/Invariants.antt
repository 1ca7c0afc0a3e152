use Rattle.std.proofs.Common.{◌-◌}
use Rattle.gated_log.proofs.AllReads.{IsGoingOn}
use Rattle.gated_log.proofs.Log.read_all.Given as goal

abbrev pub invariant-reads : goal.invariant-reads
invariant-reads g l =
    let d = g.D.Disk in
    IsGoingOn l.limit (d.bytes l.fn.disk) (d.bytes l.disk) (d.told l.fn.disk) (d.told l.disk) (d.meanwhile l.fn.disk) (d.meanwhile l.disk) (d.faults l.fn.disk) (d.faults l.disk) l.fn.size l.size l.turns l.bytes.items

abbrev pub decreases-reads : goal.decreases-reads
decreases-reads g l = 1000 - l.turns
