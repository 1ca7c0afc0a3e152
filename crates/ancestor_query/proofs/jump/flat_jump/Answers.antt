use Rattle.segment_codec.specs.Lent.{segment_of}
use Rattle.ancestor_query.proofs.Best.{found-at, best-start}
use Rattle.ancestor_query.proofs.jump.flat_jump.Goals as goal

pub returns-clause-best : goal.returns-clause-best
returns-clause-best g c =
    let flats = g.T.SegmentTable.flats c.args.table.now in
    best-start flats (g.T.SegmentTable.ending_at c.args.table.now) c.args.id (g.met.T.SegmentTable.lawful c.args.table.now) (segment_of c.unwrap-segment.result)
    (found-at flats c.args.id c.flat.result c.unwrap-segment.result c.unwrap-segment.ensures c.flat.ensures.found)
