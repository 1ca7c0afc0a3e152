use Rattle.segdag_c.proofs.exports.segdag_core_load.Given as goal

abbrev pub ghost-load_log : goal.ghost-load_log
ghost-load_log g a = g.disk
