use Rattle.segdag_c.proofs.stored.segdag_core_strip.Given as goal

abbrev pub ghost-strip : goal.ghost-strip
ghost-strip g a = g.disk
