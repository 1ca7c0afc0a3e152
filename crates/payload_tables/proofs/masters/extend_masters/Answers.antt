use Rattle.std.proofs.Common.{◌∙◌, sym}
use Rattle.payload_tables.proofs.Adding.{both-end}
use Rattle.payload_tables.proofs.masters.extend_masters.Goals as goal

pub extend_checked-requires-clause-table : goal.extend_checked-requires-clause-table
extend_checked-requires-clause-table c = let r = c.requires.tables in (r.0, record { flat = r.1.flat; levels_of = r.1.levels_of }, r.2)

pub extend_checked-requires-clause-follows : goal.extend_checked-requires-clause-follows
extend_checked-requires-clause-follows c =
    let r = c.requires.tables in c.requires.follows ∙ r.1.names.masters ∙ sym (both-end c.args.flat.now c.args.levels.now c.args.names.now r.0 r.1)

pub returns-in-Ok-clause-table : goal.returns-in-Ok-clause-table
returns-in-Ok-clause-table c = λ added b stand. (c.in_ok-extend_checked.ensures.rows added (record { flat = b.flat; levels_of = b.levels_of }) stand).flat

pub returns-in-Ok-clause-levels : goal.returns-in-Ok-clause-levels
returns-in-Ok-clause-levels c = λ added b stand. (c.in_ok-extend_checked.ensures.rows added (record { flat = b.flat; levels_of = b.levels_of }) stand).levels_of

pub returns-in-Err-clause-unchanged : goal.returns-in-Err-clause-unchanged
returns-in-Err-clause-unchanged c =
    let back = c.cut_back.ensures c.args.flat.now c.args.levels.now c.extent_of-extent.ensures c.in_ok-extend_checked.ensures.front in
    (back.0, back.1, c.in-Err.ensures.unchanged)

pub returns-in-Ok-clause-sections : goal.returns-in-Ok-clause-sections
returns-in-Ok-clause-sections c = λ added b stand. c.in_ok-extend_checked.ensures.sections added (record { flat = b.flat; levels_of = b.levels_of }) stand
