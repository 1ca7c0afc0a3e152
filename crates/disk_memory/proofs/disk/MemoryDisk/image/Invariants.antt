use Rattle.disk_memory.proofs.Covering.{AtCall}
use Rattle.disk_memory.proofs.disk.MemoryDisk.image.Given as goal

abbrev pub invariant-calls : goal.invariant-calls
invariant-calls l = AtCall l.self.start.items l.self.calls.items l.call-index l.clock l.choice.moment l.view
