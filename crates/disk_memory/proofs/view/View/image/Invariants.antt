use Rattle.disk_memory.specs.Views.{view_byte}
use Rattle.disk_memory.proofs.Viewing.{IsFilled}
use Rattle.disk_memory.proofs.view.View.image.Given as goal

abbrev pub invariant-places : goal.invariant-places
invariant-places l = IsFilled (view_byte l.fill l.self) l.image.items l.place
