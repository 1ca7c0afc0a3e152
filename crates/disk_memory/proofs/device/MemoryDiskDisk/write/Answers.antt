use Rattle.std.proofs.Common.{◌<◌, arith}
use Rattle.disk_trait.specs.Images.{moment_of, last_moment}
use Rattle.disk_memory.specs.Tells.{tells}
use Rattle.disk_memory.proofs.Recording.{fails_whole}
use Rattle.disk_memory.proofs.device.MemoryDiskDisk.write.Goals as goal

pub returns-then-fails-clause-err : goal.returns-then-fails-clause-err
returns-then-fails-clause-err c =
    let early : moment_of (tells c.args.self.now) < last_moment = (let n = c.args.self.now.time in omega (arith, n)) in
    fails_whole c.args.at c.args.piece.now (tells c.args.self.now) (tells c.keep_write.new.self) (tells c.fault-then-fails.new.self) early c.requires c.in_default.ensures.ok c.fault-then-fails.ensures.told
