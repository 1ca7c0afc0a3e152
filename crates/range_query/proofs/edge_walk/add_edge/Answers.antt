use Rattle.segment_codec.specs.Lent.{segment_of}
use Rattle.range_query.proofs.EdgeLemmas.{edge-sound}
use Rattle.range_query.proofs.edge_walk.add_edge.Goals as goal

pub returns-clause-sound : goal.returns-clause-sound
returns-clause-sound g c = λ x m.
    edge-sound (g.T.SegmentTable.flats c.args.table.now) (g.met.T.SegmentTable.lawful c.args.table.now) c.args.set.now _ x (segment_of c.flat_at-segment.result) c.flat_at-segment.ensures.found
    (c.in_ok-add_lowest.ensures.members x) m
