use Rattle.std.proofs.Common.{arith}
use Rattle.segment_codec.specs.Lent.{segment_of}
use Rattle.range_query.proofs.EdgeLemmas.{low-behind}
use Rattle.range_query.proofs.edge_walk.low_from.Goals as goal

pub returns-clause-low : goal.returns-clause-low
returns-clause-low g c = λ k s le e.
    let low = low-behind (g.T.SegmentTable.flats c.args.table.now) (g.met.T.SegmentTable.lawful c.args.table.now) c.args.place k (segment_of c.flat_at.result) s le c.flat_at.ensures.found e in
    let number = c.number.ensures.number in let is = c.low.ensures in omega (arith, low, number, is)
