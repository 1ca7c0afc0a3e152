use Rattle.std.proofs.Common.{◌∙◌, sym}
use Rattle.payload_tables.proofs.Building.{parts-end}
use Rattle.payload_tables.proofs.build.add_masters.Goals as goal

pub extend_checked-requires-clause-table : goal.extend_checked-requires-clause-table
extend_checked-requires-clause-table c = let r = c.requires.parts in (r.0, record { flat = r.1.flat; levels_of = r.1.levels_of }, r.2)

pub extend_checked-requires-clause-follows : goal.extend_checked-requires-clause-follows
extend_checked-requires-clause-follows c =
    let r = c.requires.parts in c.requires.follows ∙ r.1.names_of.masters ∙ sym (parts-end c.args.flat.now c.args.levels.now c.args.names.now r.0 r.1)

pub returns-clause-table : goal.returns-clause-table
returns-clause-table c = λ added b stand. (c.in_ok-extend_checked.ensures.rows added (record { flat = b.flat; levels_of = b.levels_of }) stand).flat

pub returns-clause-levels : goal.returns-clause-levels
returns-clause-levels c = λ added b stand. (c.in_ok-extend_checked.ensures.rows added (record { flat = b.flat; levels_of = b.levels_of }) stand).levels_of

pub returns-clause-sections : goal.returns-clause-sections
returns-clause-sections c = λ added b stand. c.in_ok-extend_checked.ensures.sections added (record { flat = b.flat; levels_of = b.levels_of }) stand
