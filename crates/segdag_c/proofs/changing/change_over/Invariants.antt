use Rattle.segdag_c.proofs.Storing.{chosen}
use Rattle.segdag_c.proofs.changing.change_over.Given as goal

abbrev pub ghosts-change_on : goal.ghosts-change_on
ghosts-change_on g a = record { disk = chosen a.store.log g.disk }
