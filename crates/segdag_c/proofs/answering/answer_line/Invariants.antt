use Rattle.segdag_c.proofs.answering.answer_line.Given as goal

abbrev pub ghost-answer_into : goal.ghost-answer_into
ghost-answer_into g a = g.disk
