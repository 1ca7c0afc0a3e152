use Rattle.segdag_c.proofs.exports.segdag_core_line.Given as goal

abbrev pub ghost-tell_line : goal.ghost-tell_line
ghost-tell_line g a = g.disk
