use Rattle.disk_trait.proofs.Telling.{goes-map}
use Rattle.gated_log.proofs.LoadCalls.{Kept, IsSynced, sync_fails, synced, start_write_fails, start_sync_fails, start_syncs, start_ends}
use Rattle.gated_log.proofs.Fresh.{fresh_write_fails, fresh_sync}
use Rattle.gated_log.proofs.Log.start.Goals as goal

pub returns-in_err-write-clause-moments : goal.returns-in_err-write-clause-moments
returns-in_err-write-clause-moments g c = λ ps. start_write_fails c.args.limit ps (g.D.Disk.told c.args.disk.now) (g.D.Disk.told c.write.new.self) (g.met.D.Disk.sound c.args.disk.now) c.requires.fresh c.requires.limits.0 c.in_err-write.ensures.err

pub returns-in_err-sync-clause-moments : goal.returns-in_err-sync-clause-moments
returns-in_err-sync-clause-moments g c = λ ps. start_sync_fails c.args.limit ps (g.D.Disk.told c.args.disk.now) (g.D.Disk.told c.write.new.self) (g.D.Disk.told c.sync.new.self) (g.met.D.Disk.sound c.args.disk.now) c.requires.fresh c.requires.limits.0 c.in_ok-write.ensures.ok c.in_err-sync.ensures.err

pub returns-clause-ok : goal.returns-clause-ok
returns-clause-ok g c = start_ends c.args.limit c.in_ok-log.log (g.D.Disk.told c.args.disk.now) (g.D.Disk.told c.write.new.self) (g.D.Disk.told c.sync.new.self) c.requires.fresh c.requires.limits.0 c.in_ok-log.ensures.log.0 c.in_ok-log.ensures.log.1 c.in_ok-log.ensures.log.2 c.in_ok-write.ensures.ok c.in_ok-sync.ensures.ok

pub returns-clause-moments : goal.returns-clause-moments
returns-clause-moments g c = λ ps. start_syncs c.args.limit ps (g.D.Disk.told c.args.disk.now) (g.D.Disk.told c.write.new.self) (g.D.Disk.told c.sync.new.self) (g.met.D.Disk.sound c.args.disk.now) (g.met.D.Disk.sound c.write.new.self) c.requires.fresh c.requires.limits.0 c.in_ok-write.ensures.ok c.in_ok-sync.ensures.ok

pub returns-in_err-write-clause-fresh : goal.returns-in_err-write-clause-fresh
returns-in_err-write-clause-fresh g c = fresh_write_fails (g.D.Disk.told c.args.disk.now) (g.D.Disk.told c.write.new.self) c.requires.fresh c.in_err-write.ensures.err

pub returns-in_err-sync-clause-fresh : goal.returns-in_err-sync-clause-fresh
returns-in_err-sync-clause-fresh g c = fresh_sync (g.D.Disk.told c.args.disk.now) (g.D.Disk.told c.write.new.self) (g.D.Disk.told c.sync.new.self) c.requires.fresh c.in_ok-write.ensures.ok
    (sync_fails (g.D.Disk.told c.write.new.self) (g.D.Disk.told c.sync.new.self) c.in_err-sync.ensures.err)

pub returns-clause-fresh : goal.returns-clause-fresh
returns-clause-fresh g c = fresh_sync (g.D.Disk.told c.args.disk.now) (g.D.Disk.told c.write.new.self) (g.D.Disk.told c.sync.new.self) c.requires.fresh c.in_ok-write.ensures.ok
    (goes-map IsSynced Kept (g.D.Disk.told c.write.new.self) (g.D.Disk.told c.sync.new.self) (λ x y r. r.kept) (synced (g.D.Disk.told c.write.new.self) (g.D.Disk.told c.sync.new.self) (g.met.D.Disk.sound c.write.new.self) c.in_ok-sync.ensures.ok))
