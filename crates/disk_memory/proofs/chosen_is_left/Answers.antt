use Rattle.disk_memory.proofs.Viewing.{chosen-left}
use Rattle.disk_memory.proofs.chosen_is_left.Goals as goal

pub returns : goal.returns
returns c = chosen-left
