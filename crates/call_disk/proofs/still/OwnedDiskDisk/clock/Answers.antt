use Rattle.call_disk.proofs.Idle.{clock-told}
use Rattle.call_disk.proofs.still.OwnedDiskDisk.clock.Goals as goal

pub returns-clause-moment : goal.returns-clause-moment
returns-clause-moment c = clock-told c.args.self.now.is_there c.args.self.now.bytes.items c.args.self.now.calls
