use Rattle.std.proofs.Common.{arith, inl, inr, ⊎_elim, refl}
use Rattle.range_query.proofs.EdgeLemmas.{leads-first, leads-next, leads-done}
use Rattle.range_query.proofs.edge_walk.add_begun.Goals as goal

pub edges-init : goal.edges-init
edges-init g c = record {
  within = c.edges_below-at.ensures.within;
  canonical = λ h. h;
  counted = omega arith;
  kept = λ x m. m;
  sound = λ x m. inl m;
  leads = leads-first (g.T.SegmentTable.flats c.args.table.now) c.args.edges.count c.args.id c.args.edges.items.now c.edges_below-at.result c.args.answer.now (omega arith)
      c.requires.edges c.edges_below-at.ensures.front c.edges_below-at.ensures.back;
}

pub edges-preserved : goal.edges-preserved
edges-preserved g c = record {
  within = let lt = c.leads_from.ensures.within c.edges-test.true in omega arith;
  canonical = λ h. c.add_edge.ensures.canonical (c.edges.invariant.canonical h);
  counted = let k = c.add_edge.ensures.counted in let b = c.edges.invariant.counted in omega arith;
  kept = λ x m. c.in_ok-add_edge.ensures.kept x (c.edges.invariant.kept x m);
  sound = λ x m. ⊎_elim (λ n. c.edges.invariant.sound x n) (λ k. inr k) (c.in_ok-add_edge.ensures.sound x m);
  leads = leads-next (g.T.SegmentTable.flats c.args.table.now) c.args.set.now c.args.edges.count c.args.id c.args.edges.items.now c.edges.at _ _ c.edges.answer c.add_edge.new.answer (omega arith)
      c.requires.member (omega arith) refl c.in_ok-add_edge.ensures.kept c.in_ok-add_edge.ensures.added c.edges.invariant.leads;
}

pub returns-clause-begun : goal.returns-clause-begun
returns-clause-begun g c =
    leads-done (g.T.SegmentTable.flats c.args.table.now) c.args.edges.count c.args.id c.args.edges.items.now c.edges.at c.edges.answer (omega arith)
    (c.leads_from.ensures.none c.edges-test.false) c.edges.invariant.leads
