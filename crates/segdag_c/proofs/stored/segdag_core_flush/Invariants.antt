use Rattle.segdag_c.proofs.stored.segdag_core_flush.Given as goal

abbrev pub ghost-flush : goal.ghost-flush
ghost-flush g a = g.disk
