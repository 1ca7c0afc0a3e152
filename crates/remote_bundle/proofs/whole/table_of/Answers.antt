use Rattle.std.proofs.Common.{Err, ap, subst, ◌∙◌, arith, []}
use Rattle.flat_segments.specs.Kept.{IsTableOf}
use Rattle.flat_segments.specs.Placed.{placed_segments}
use Rattle.bundle_codec.specs.Bundle.{Contents}
use Rattle.bundle_codec.specs.Lent.{contents_of_lent}
use Rattle.remote_bundle.proofs.Tabling.{records-are, may-extend, records-fit, never-bad}
use Rattle.remote_bundle.proofs.whole.table_of.Goals as goal

pub extend-requires-clause-records : goal.extend-requires-clause-records
extend-requires-clause-records c = may-extend (contents_of_lent c.args.bundle.now) c.requires.bundle c.empty-table.result c.empty-table.ensures c.records.result.now c.records.ensures

pub extend-requires-clause-place : goal.extend-requires-clause-place
extend-requires-clause-place c =
    let fits = records-fit (contents_of_lent c.args.bundle.now) c.requires.bundle c.args.bytes.now c.records.result.now c.requires.spelled c.requires.fits c.records.ensures in
    let start = c.records_start.ensures in
    omega (arith, fits, start)

pub unreachable-requires : goal.unreachable-requires
unreachable-requires c =
    let d : Contents = contents_of_lent c.args.bundle.now in
    never-bad d c.requires.bundle c.empty-table.result c.empty-table.ensures c.in-Err-BadSegment.field-0-0
    (c.extend.ensures.bad d.segments c.in-Err-BadSegment.field-0-0 (records-are d c.requires.bundle c.records.result.now c.records.ensures) (c.in-Err-BadSegment.is ∙ ap (λ f. Err f) c.in-Err-BadSegment.field-0-is))

pub returns-in-Ok-clause-table : goal.returns-in-Ok-clause-table
returns-in-Ok-clause-table c =
    let d : Contents = contents_of_lent c.args.bundle.now in
    subst (λ at. IsTableOf c.extend.new.self (placed_segments at d.segments)) c.records_start.ensures
    (c.in-Ok.ensures.table [] d.segments c.empty-table.ensures (records-are d c.requires.bundle c.records.result.now c.records.ensures))
