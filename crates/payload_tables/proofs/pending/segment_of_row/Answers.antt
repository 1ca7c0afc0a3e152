use Rattle.std.proofs.Common.{◌∙◌}
use Rattle.payload_tables.proofs.Rows.{row-long, row-numbers}
use Rattle.payload_tables.proofs.pending.segment_of_row.Goals as goal

pub split_at-requires : goal.split_at-requires
split_at-requires c = row-long c.args.id c.requires.0 c.args.written.now c.requires.1

pub flat-requires-clause-parents : goal.flat-requires-clause-parents
flat-requires-clause-parents c = (c.requires.0, c.requires.1.whole.below, c.split_at.ensures.back ∙ row-numbers c.args.id c.requires.0 c.args.written.now c.requires.1)

pub returns : goal.returns
returns c = λ parents r. c.flat.ensures parents r.whole.below (c.split_at.ensures.back ∙ row-numbers c.args.id parents c.args.written.now r)
