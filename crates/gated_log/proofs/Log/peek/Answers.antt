use Rattle.std.proofs.Common.{arith}
use Rattle.gated_log.proofs.LoadCalls.{only_three}
use Rattle.gated_log.proofs.AllReads.{peek_grown, peek_large}
use Rattle.gated_log.proofs.Log.peek.Goals as goal

pub returns-clause-reads : goal.returns-clause-reads
returns-clause-reads g c = only_three (g.D.Disk.told c.args.disk.now) (g.D.Disk.told c.size.new.self) (g.D.Disk.told c.read_all.new.disk) c.in_ok-length.ensures.ok c.read_all.ensures.reads

pub returns-then-length-limit-clause-meanwhile : goal.returns-then-length-limit-clause-meanwhile
returns-then-length-limit-clause-meanwhile g c = λ payloads.
    peek_large c.args.limit c.in_ok-length.length payloads (g.D.Disk.meanwhile c.args.disk.now) (g.D.Disk.meanwhile c.size.new.self) (omega arith) c.in_ok-length.ensures.lasts c.in_ok-length.ensures.measured

pub returns-clause-meanwhile : goal.returns-clause-meanwhile
returns-clause-meanwhile g c = λ payloads.
    peek_grown c.args.limit c.in_ok-length.length payloads c.read_all.result (g.D.Disk.meanwhile c.args.disk.now) (g.D.Disk.meanwhile c.size.new.self) (g.D.Disk.meanwhile c.read_all.new.disk)
    c.in_ok-length.ensures.lasts c.in_ok-length.ensures.measured (λ from start. c.read_all.ensures.meanwhile payloads from start)
