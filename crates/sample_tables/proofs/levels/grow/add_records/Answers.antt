use Rattle.std.proofs.Common.{refl, arith, sym, subst}
use Rattle.flat_segments.proofs.Callers.{on-ok}
use Rattle.high_segments.specs.Extending.{MayExtendLevels}
use Rattle.segment_levels.specs.Flats.{flats_of}
use Rattle.segment_levels.specs.Kept.{KeptLevels, AreLevelsOf}
use Rattle.sample_tables.proofs.Growing.{may-level, follows, grown-more}
use Rattle.sample_tables.proofs.levels.grow.add_records.Goals as goal

pub rehearse_if-requires : goal.rehearse_if-requires
rehearse_if-requires c =
    let g = c.requires.grown in let a = c.if-not-are_records.ensures refl in
    let count = c.count.ensures in let le = c.if-count.false in
    may-level c.args.log.now c.args.tables.now.table c.args.tables.now.probe c.args.tables.now.levels c.args.most g c.requires.small c.split_at-2.result.0.now a.0 a.1 a.2 (c.in_ok-extend.ensures.lawful a.0 a.1) c.args.at c.extend.new.self
    (c.in_ok-extend.ensures.table g.records a.0 g.probe_of a.1) (omega (arith, count, le))

pub extend-requires-2 : goal.extend-requires-2
extend-requires-2 c =
    let g = c.requires.grown in let a = c.if-not-are_records.ensures refl in
    let count = c.count.ensures in let le = c.if-count.false in
    subst (λ (l : KeptLevels). MayExtendLevels l c.args.tables.now.table c.args.log.now c.split_at-2.result.0.now) (sym c.rehearse_if.ensures)
    (may-level c.args.log.now c.args.tables.now.table c.args.tables.now.probe c.args.tables.now.levels c.args.most g c.requires.small c.split_at-2.result.0.now a.0 a.1 a.2 (c.in_ok-extend.ensures.lawful a.0 a.1) c.args.at c.extend.new.self
    (c.in_ok-extend.ensures.table g.records a.0 g.probe_of a.1) (omega (arith, count, le)))

pub returns : goal.returns
returns c =
    let g = c.requires.grown in let a = c.if-not-are_records.ensures refl in
    let count = c.count.ensures in let le = c.if-count.false in
    let probe = c.in_ok-extend.ensures.table g.records a.0 g.probe_of a.1 in
    let levels = subst (λ (l : KeptLevels). AreLevelsOf l (flats_of c.args.tables.now.table g.records)) (sym c.rehearse_if.ensures) g.levels_of in
    let f = follows c.args.log.now c.args.tables.now.table c.args.tables.now.probe c.args.tables.now.levels c.args.most g c.requires.small c.split_at-2.result.0.now a.0 a.1 a.2 (c.in_ok-extend.ensures.lawful a.0 a.1) c.args.at c.extend.new.self
    probe (omega (arith, count, le)) in
    on-ok c.extend-3.result
    (λ t. grown-more c.args.log.now c.args.tables.now.table c.args.tables.now.probe c.args.tables.now.levels c.args.most g c.requires.small c.split_at-2.result.0.now a.0 a.1 a.2 (c.in_ok-extend.ensures.lawful a.0 a.1) c.args.at c.args.len c.split_at.result.1.now
    c.extend-3.new.self c.extend.new.self c.extend-2.new.self (omega (arith, count, le)) c.split_at.ensures.back c.split_at-2.ensures.front (t g.records a.0 g.table_of a.1) probe (c.in_ok-extend-2.ensures.levels g.records a.0 f levels))
    c.extend-3.ensures.table
