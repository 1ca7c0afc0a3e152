use Rattle.call_disk.specs.Awaited.{tape_of}
use Rattle.call_disk.specs.Noted.{Sync}
use Rattle.call_disk.proofs.Lending.{lent-sync, written-sync}
use Rattle.call_disk.proofs.Replaying.{counted_after, fit_after, sync_err, sync_fits, sync_ok}
use Rattle.call_disk.proofs.lent.LentDiskDisk.sync.Goals as goal

pub invariant_of-self : goal.invariant_of-self
invariant_of-self g c =
    let self = c.args.self.now in
    let r = c.add_sync.result in
    let told = c.add_sync.ensures in
    let disk = g.B.Beneath.disk in
    let old = tape_of self.noted in
    let new = tape_of c.add_sync.new.self in
    record {
      counted = counted_after Sync r old new self.counted told.noted told.idle;
      fit = fit_after disk Sync r old new self.fit (sync_fits disk old) told.noted told.idle;
      written = written-sync self.is_written r old new self.written told.noted told.idle;
      lends = self.lends;
    }

pub returns-clause-still : goal.returns-clause-still
returns-clause-still g c =
    let self = c.args.self.now in
    lent-sync g.B.Beneath.disk self.bytes.now c.add_sync.result (tape_of self.noted) (tape_of c.add_sync.new.self) c.add_sync.ensures.noted c.add_sync.ensures.idle

pub returns-clause-ok : goal.returns-clause-ok
returns-clause-ok g c = let self = c.args.self.now in sync_ok g.B.Beneath.disk c.add_sync.result (tape_of self.noted) (tape_of c.add_sync.new.self) self.counted c.add_sync.ensures.noted

pub returns-clause-err : goal.returns-clause-err
returns-clause-err g c = let self = c.args.self.now in sync_err g.B.Beneath.disk c.add_sync.result (tape_of self.noted) (tape_of c.add_sync.new.self) self.counted c.add_sync.ensures.idle
