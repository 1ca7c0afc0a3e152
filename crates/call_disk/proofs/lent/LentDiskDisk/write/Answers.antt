use Rattle.call_disk.specs.Awaited.{tape_of}
use Rattle.call_disk.specs.Noted.{Write}
use Rattle.call_disk.proofs.Lending.{written-idle, written-now}
use Rattle.call_disk.proofs.Replaying.{counted_idle, counted_noted, fail_told, fit_idle, fit_noted, write_told}
use Rattle.call_disk.proofs.lent.LentDiskDisk.write.Goals as goal

pub invariant_of-self : goal.invariant_of-self
invariant_of-self g c =
    let disk = c.args.self.now in
    let call = Write c.args.at c.args.piece.now in
    let old = tape_of disk.noted in
    let new = tape_of c.add_write.new.self in
    let noted = c.in-Ok.ensures.noted in
    record {
      counted = counted_noted call old new disk.counted noted;
      fit = fit_noted g.B.Beneath.disk call old new disk.fit c.requires noted;
      written = written-now c.args.at c.args.piece.now old new noted;
      lends = disk.lends;
    }

pub invariant_of-self-in-Err-1 : goal.invariant_of-self-in-Err-1
invariant_of-self-in-Err-1 g c =
    let disk = c.args.self.now in
    let old = tape_of disk.noted in
    let new = tape_of c.add_write.new.self in
    let idle = c.in-Err.ensures.idle in
    record {
      counted = counted_idle old new disk.counted idle;
      fit = fit_idle g.B.Beneath.disk old new disk.fit idle;
      written = written-idle disk.is_written old new disk.written idle;
      lends = disk.lends;
    }

pub returns-in-Ok-clause-ok : goal.returns-in-Ok-clause-ok
returns-in-Ok-clause-ok g c =
    let disk = c.args.self.now in write_told g.B.Beneath.disk c.args.at c.args.piece.now (tape_of disk.noted) (tape_of c.add_write.new.self) disk.counted c.in-Ok.ensures.noted

pub returns-in-Err-clause-err : goal.returns-in-Err-clause-err
returns-in-Err-clause-err g c =
    let disk = c.args.self.now in fail_told g.B.Beneath.disk c.args.at c.args.piece.now (tape_of disk.noted) (tape_of c.add_write.new.self) disk.counted c.in-Err.ensures.idle
