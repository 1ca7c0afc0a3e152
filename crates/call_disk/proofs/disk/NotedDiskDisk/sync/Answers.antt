use Rattle.call_disk.specs.Awaited.{tape_of}
use Rattle.call_disk.specs.Noted.{Sync}
use Rattle.call_disk.proofs.Replaying.{counted_after, fit_after, sync_err, sync_fits, sync_ok, sync_still}
use Rattle.call_disk.proofs.disk.NotedDiskDisk.sync.Goals as goal

pub invariant_of-self : goal.invariant_of-self
invariant_of-self g c =
    let r = c.add_sync.result in
    let told = c.add_sync.ensures in
    let disk = g.B.Beneath.disk in
    let old = tape_of c.args.self.now.noted in
    let new = tape_of c.add_sync.new.self in
    record {
      counted = counted_after Sync r old new c.args.self.now.counted told.noted told.idle;
      fit = fit_after disk Sync r old new c.args.self.now.fit (sync_fits disk old) told.noted told.idle;
    }

pub returns-clause-still : goal.returns-clause-still
returns-clause-still g c = sync_still g.B.Beneath.disk c.add_sync.result (tape_of c.args.self.now.noted) (tape_of c.add_sync.new.self) c.add_sync.ensures.noted c.add_sync.ensures.idle

pub returns-clause-ok : goal.returns-clause-ok
returns-clause-ok g c = sync_ok g.B.Beneath.disk c.add_sync.result (tape_of c.args.self.now.noted) (tape_of c.add_sync.new.self) c.args.self.now.counted c.add_sync.ensures.noted

pub returns-clause-err : goal.returns-clause-err
returns-clause-err g c = sync_err g.B.Beneath.disk c.add_sync.result (tape_of c.args.self.now.noted) (tape_of c.add_sync.new.self) c.args.self.now.counted c.add_sync.ensures.idle
