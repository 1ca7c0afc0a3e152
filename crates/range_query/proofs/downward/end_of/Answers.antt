use Rattle.std.proofs.Common.{arith, ◌+◌}
use Rattle.segment_codec.proofs.Tables.{lawful-rising}
use Rattle.range_query.proofs.FallLemmas.{place-within, place-above}
use Rattle.range_query.proofs.downward.end_of.Goals as goal

pub overflow_add-result : goal.overflow_add-result
overflow_add-result g c =
    let flats = g.T.SegmentTable.flats c.args.table.now in
    let lt = place-within flats c.in-Some.greatest c.count_below.result c.count_below.ensures.place (c.requires c.in-Some.greatest c.in-Some.ensures.0) in
    omega (arith, c.count_below.ensures.fits)

pub returns-in-Some-clause-within : goal.returns-in-Some-clause-within
returns-in-Some-clause-within g c =
    let flats = g.T.SegmentTable.flats c.args.table.now in
    let lt = place-within flats c.in-Some.greatest c.count_below.result c.count_below.ensures.place (c.requires c.in-Some.greatest c.in-Some.ensures.0) in
    omega arith

pub returns-in-Some-clause-above : goal.returns-in-Some-clause-above
returns-in-Some-clause-above g c = λ x m.
    let flats = g.T.SegmentTable.flats c.args.table.now in
    place-above flats (lawful-rising flats (g.met.T.SegmentTable.lawful c.args.table.now)) c.in-Some.greatest c.count_below.result (c.count_below.result + 1) c.count_below.ensures.place (omega arith)
    x (c.in-Some.ensures.1 x m)
