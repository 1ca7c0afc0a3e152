use Rattle.call_disk.specs.Awaited.{tape_of}
use Rattle.call_disk.proofs.Replaying.{bytes_idle, counted_idle, fit_idle, idle_told}
use Rattle.call_disk.proofs.disk.NotedDiskDisk.size.Goals as goal

pub invariant_of-self : goal.invariant_of-self
invariant_of-self g c =
    let old = tape_of c.args.self.now.noted in
    let new = tape_of c.fail.new.self in
    record {
      counted = counted_idle old new c.args.self.now.counted c.fail.ensures.idle;
      fit = fit_idle g.B.Beneath.disk old new c.args.self.now.fit c.fail.ensures.idle;
    }

pub returns-clause-still : goal.returns-clause-still
returns-clause-still g c = bytes_idle g.B.Beneath.disk (tape_of c.args.self.now.noted) (tape_of c.fail.new.self) c.fail.ensures.idle

pub returns-clause-err : goal.returns-clause-err
returns-clause-err g c = idle_told g.B.Beneath.disk (tape_of c.args.self.now.noted) (tape_of c.fail.new.self) c.args.self.now.counted c.fail.ensures.idle
