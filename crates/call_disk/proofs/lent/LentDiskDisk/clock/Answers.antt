use Rattle.call_disk.specs.Awaited.{tape_of}
use Rattle.call_disk.proofs.Replaying.{clock_over}
use Rattle.call_disk.proofs.lent.LentDiskDisk.clock.Goals as goal

pub returns-clause-moment : goal.returns-clause-moment
returns-clause-moment g c = clock_over g.B.Beneath.disk (tape_of c.args.self.now.noted) c.moment.result c.args.self.now.counted c.moment.ensures.moment
