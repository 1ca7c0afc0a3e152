use Rattle.std.proofs.Common.{◌∙◌, ap, arith}
use Rattle.id_groups.specs.Id.{other_id}
use Rattle.segment_codec.specs.Lent.{segment_of}
use Rattle.change_parts.proofs.RowLemmas.{high-other}
use Rattle.strip_plan.proofs.Lending.{root-lent, first-lent, next-lent}
use Rattle.strip_plan.proofs.lent.row_from.Goals as goal

pub returns-in_default-clause-first : goal.returns-in_default-clause-first
returns-in_default-clause-first g c =
    root-lent (g.T.SegmentTable.flats c.args.table.now) c.args.k c.other-id.result (c.other-id.ensures ∙ ap other_id c.from.ensures) c.in_default.ensures.found

pub end_of-end-requires : goal.end_of-end-requires
end_of-end-requires g c =
    let flats = g.T.SegmentTable.flats c.args.table.now in
    let le = high-other flats c.args.k c.other-id.result (segment_of c.in-Some.segment) (c.other-id.ensures ∙ ap other_id c.from.ensures) c.in-Some.ensures.found in
    let is = c.high.ensures in omega (arith, le, is)

pub returns-clause-next : goal.returns-clause-next
returns-clause-next g c =
    let flats = g.T.SegmentTable.flats c.args.table.now in
    let le = high-other flats c.args.k c.other-id.result (segment_of c.in-Some.segment) (c.other-id.ensures ∙ ap other_id c.from.ensures) c.in-Some.ensures.found in
    let is = c.high.ensures in
    (c.end_of-end.ensures.above c.args.k (omega (arith, le, is)) c.requires, c.end_of-end.ensures.below.0)

pub returns-clause-first : goal.returns-clause-first
returns-clause-first g c =
    let id = c.other-id.ensures ∙ ap other_id c.from.ensures in
    first-lent (g.T.SegmentTable.flats c.args.table.now) c.args.k c.other-id.result (segment_of c.in-Some.segment) c.first_row.result id c.in-Some.ensures.found (c.first_row.ensures c.args.k id)

pub returns-clause-behind : goal.returns-clause-behind
returns-clause-behind g c = λ j from lt.
    let high = c.end_of-end.ensures.below.1 in let is = c.high.ensures in
    next-lent (g.T.SegmentTable.flats c.args.table.now) (g.met.T.SegmentTable.lawful c.args.table.now) c.args.k c.other-id.result (segment_of c.in-Some.segment) j
    (c.other-id.ensures ∙ ap other_id c.from.ensures) c.in-Some.ensures.found from (omega (arith, lt, high, is))
