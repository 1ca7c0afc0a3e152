use Rattle.segdag_c.proofs.stored.segdag_core_pull.Given as goal

abbrev pub ghost-pull : goal.ghost-pull
ghost-pull g a = g.disk
