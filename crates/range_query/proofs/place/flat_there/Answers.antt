use Rattle.std.proofs.Common.{arith}
use Rattle.segment_codec.specs.Lent.{segment_of}
use Rattle.segment_codec.proofs.Tables.{lawful-at}
use Rattle.range_query.proofs.Rows.{at-in}
use Rattle.range_query.proofs.PassLemmas.{end-at}
use Rattle.range_query.proofs.place.flat_there.Goals as goal

pub returns-clause-found : goal.returns-clause-found
returns-clause-found g c =
    let flats = g.T.SegmentTable.flats c.args.table.now in
    let s = segment_of c.flat_at-segment.result in
    let id = c.number.ensures.number in let below = c.number-2.ensures.number in let again = c.number-else-number-2.ensures.number in let above = c.number-else-number.ensures.number in
    let low = c.low.ensures in let high = c.high.ensures in let from = c.if-number.false in let to = c.if-number-2.false in
    lawful-at flats (g.met.T.SegmentTable.lawful c.args.table.now) c.args.id s (at-in flats c.args.place s c.flat_at-segment.ensures.found) (omega arith, omega arith)

pub returns-clause-end : goal.returns-clause-end
returns-clause-end g c =
    let flats = g.T.SegmentTable.flats c.args.table.now in
    let s = segment_of c.flat_at-segment.result in
    let id = c.number.ensures.number in let below = c.number-2.ensures.number in let again = c.number-else-number-2.ensures.number in let above = c.number-else-number.ensures.number in
    let low = c.low.ensures in let high = c.high.ensures in let from = c.if-number.false in let to = c.if-number-2.false in
    let count = c.flat_count.ensures in let test = c.if-place-flat_count.false in
    end-at flats (g.met.T.SegmentTable.lawful c.args.table.now) c.args.id c.args.place _ s (omega arith) (omega arith) c.flat_at-segment.ensures.found (omega arith)
