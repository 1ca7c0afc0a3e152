use Rattle.range_query.proofs.EdgeLemmas.{all-begun}
use Rattle.range_query.proofs.edge_walk.add_by_edges.Goals as goal

pub returns-clause-whole : goal.returns-clause-whole
returns-clause-whole g c = λ x lt k.
    all-begun (g.T.SegmentTable.flats c.args.table.now) (g.met.T.SegmentTable.lawful c.args.table.now) c.args.set.now _ c.low_from.result c.add_each.new.answer
    c.low_from.ensures.low c.in_ok-add_each.ensures.added x lt k
