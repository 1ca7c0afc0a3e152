use Rattle.std.proofs.Common.{Err, ap, subst}
use Rattle.segment_levels.specs.Kept.{AreLevelsOf}
use Rattle.payload_tables.proofs.Adding.{never-broken}
use Rattle.payload_tables.proofs.Leveling.{extended-are}
use Rattle.payload_tables.proofs.masters.extend_table.Goals as goal

pub returns-in-Ok-clause-table : goal.returns-in-Ok-clause-table
returns-in-Ok-clause-table c = λ before segments f. c.in-Ok.ensures.table before segments f.table_of f.are

pub returns-in-Ok-clause-levels : goal.returns-in-Ok-clause-levels
returns-in-Ok-clause-levels c = λ before segments f levels.
    subst (AreLevelsOf c.extend.new.self)
    (extended-are c.args.flat.now c.extend-2.new.self before c.args.at segments f.table_of (c.in-Ok.ensures.table before segments f.table_of f.are))
    (c.in_ok-extend.ensures.levels before segments f levels)

pub unreachable-requires : goal.unreachable-requires
unreachable-requires c =
    let r = c.requires.records in
    let bad = c.in-Err-BadSegment.ensures.bad r.segments c.in-Err-BadSegment.field-0-0 r.follow.are (ap Err c.in-Err-BadSegment.field-0-is) in
    never-broken c.args.flat.now.end c.in-Err-BadSegment.field-0-0 r.segments r.follow.in_turn bad
