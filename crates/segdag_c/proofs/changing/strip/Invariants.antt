use Rattle.segdag_c.proofs.changing.strip.Given as goal

abbrev pub ghost-change : goal.ghost-change
ghost-change g a = g.disk
