use Rattle.segdag_c.proofs.loading.load_log.Given as goal

abbrev pub ghost-load_store : goal.ghost-load_store
ghost-load_store g a = g.disk
