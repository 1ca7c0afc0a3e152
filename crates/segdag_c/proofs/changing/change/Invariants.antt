use Rattle.segdag_c.proofs.changing.change.Given as goal

abbrev pub ghost-change_over : goal.ghost-change_over
ghost-change_over g a = g.disk
