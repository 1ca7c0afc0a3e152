use Rattle.segdag_c.proofs.answering.answer_into.Given as goal

abbrev pub ghost-answer_over : goal.ghost-answer_over
ghost-answer_over g a = g.disk
