use Rattle.segdag_c.proofs.stored.segdag_core_clone.Given as goal

abbrev pub ghost-clone : goal.ghost-clone
ghost-clone g a = g.disk
