use Rattle.std.proofs.Common.{arith}
use Rattle.range_query.proofs.FallLemmas.{place-within}
use Rattle.range_query.proofs.PassLemmas.{end-of-place}
use Rattle.range_query.proofs.place.count_to.Goals as goal

pub overflow_add-result-in-None : goal.overflow_add-result-in-None
overflow_add-result-in-None g c =
    let lt = place-within (g.T.SegmentTable.flats c.args.table.now) c.args.id c.count_below.result c.count_below.ensures.place c.requires in let fits = c.count_below.ensures.fits in omega arith

pub returns-in-None-clause-end : goal.returns-in-None-clause-end
returns-in-None-clause-end g c = end-of-place (g.T.SegmentTable.flats c.args.table.now) (g.met.T.SegmentTable.lawful c.args.table.now) c.args.id c.count_below.result _ (omega arith) c.count_below.ensures.place c.requires
