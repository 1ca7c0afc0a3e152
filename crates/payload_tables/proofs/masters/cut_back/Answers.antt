use Rattle.std.proofs.Common.{◌∙◌}
use Rattle.payload_tables.proofs.Adding.{cut-again}
use Rattle.payload_tables.proofs.masters.cut_back.Goals as goal

pub returns : goal.returns
returns c = λ old row e f.
    (c.cut_back.ensures ∙ cut-again old c.args.flat.now c.args.extent.now.len c.args.extent.now.count f.entries e.len e.count, c.cut_back-2.ensures row e.levels_of f.levels_front)
