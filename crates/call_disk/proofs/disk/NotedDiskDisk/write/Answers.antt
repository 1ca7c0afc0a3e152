use Rattle.call_disk.specs.Awaited.{tape_of}
use Rattle.call_disk.specs.Noted.{Write}
use Rattle.call_disk.proofs.Replaying.{counted_after, fit_after, write_err, write_ok}
use Rattle.call_disk.proofs.disk.NotedDiskDisk.write.Goals as goal

pub invariant_of-self : goal.invariant_of-self
invariant_of-self g c =
    let call = Write c.args.at c.args.piece.now in
    let r = c.add_write.result in
    let told = c.add_write.ensures in
    let old = tape_of c.args.self.now.noted in
    let new = tape_of c.add_write.new.self in
    record {
      counted = counted_after call r old new c.args.self.now.counted told.noted told.idle;
      fit = fit_after g.B.Beneath.disk call r old new c.args.self.now.fit c.requires told.noted told.idle;
    }

pub returns-clause-ok : goal.returns-clause-ok
returns-clause-ok g c =
    write_ok g.B.Beneath.disk c.args.at c.args.piece.now c.add_write.result (tape_of c.args.self.now.noted) (tape_of c.add_write.new.self) c.args.self.now.counted c.add_write.ensures.noted

pub returns-clause-err : goal.returns-clause-err
returns-clause-err g c =
    write_err g.B.Beneath.disk c.args.at c.args.piece.now c.add_write.result (tape_of c.args.self.now.noted) (tape_of c.add_write.new.self) c.args.self.now.counted c.add_write.ensures.idle
