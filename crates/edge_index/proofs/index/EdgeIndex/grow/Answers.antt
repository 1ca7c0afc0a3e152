use Rattle.std.proofs.Common.{◌≤◌, length, sym, subst}
use Rattle.segment_codec.specs.Edges.{AreEdgesOf}
use Rattle.edge_index.specs.Index.{PlainEdges}
use Rattle.edge_index.proofs.Found.{grown}
use Rattle.edge_index.proofs.index.EdgeIndex.grow.Goals as goal

pub returns-clause-grown : goal.returns-clause-grown
returns-clause-grown g c = λ h.
    let flats = g.T.SegmentTable.flats c.args.table.now in
    let few = subst (λ (z : PlainEdges). z.count ≤ length flats) (sym c.self.view_is) h.few in
    grown c.self.inside.items.items c.self.inside.count c.in_ok-fresh.fresh.items c.in_ok-fresh.count c.join.new.numbers.items flats
    (subst (λ (z : PlainEdges). AreEdgesOf z.items z.count flats) (sym c.self.view_is) h.edges)
    c.in_ok-fresh.ensures.order c.in_ok-fresh.ensures.edges (c.in_ok-fresh.ensures.few few)
    c.in_ok-join.ensures.joined
