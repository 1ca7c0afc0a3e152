use Rattle.segdag_c.proofs.Storing.{chosen}
use Rattle.segdag_c.proofs.answering.answer_over.Given as goal

abbrev pub ghosts-answer_on : goal.ghosts-answer_on
ghosts-answer_on g a = record { disk = chosen a.store.log g.disk }
