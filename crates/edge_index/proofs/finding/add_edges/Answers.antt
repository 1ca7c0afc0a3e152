use Rattle.std.proofs.Common.{◌∙◌, ap, sym, subst, [], ◌∷◌}
use Rattle.id_groups.specs.Lists.{IsIn}
use Rattle.segment_codec.specs.Edges.{edge_of}
use Rattle.segment_codec.specs.Lent.{segment_of, parents_left}
use Rattle.edge_index.proofs.Found.{in-front, edges-more, edges-all}
use Rattle.edge_index.proofs.finding.add_edges.Goals as goal

pub parents-preserved : goal.parents-preserved
parents-preserved c = record {
  keeps = λ e i. subst (IsIn e) (sym c.in_ok-push.ensures.items) (in-front e c.parents.found.items (c.edge.result ∷ []) (c.parents.invariant.keeps e i));
  edges = edges-more (segment_of c.args.segment).parents (parents_left c.parents.rest) (parents_left c.next.new.self) c.args.place c.in-Some.parent c.edge.result c.parents.found.items c.push.new.self.items
      c.in-Some.ensures.steps (c.edge.ensures ∙ ap (λ n. edge_of n c.args.place) c.number-in-Some.ensures.number) c.in_ok-push.ensures.items c.parents.invariant.edges;
}

pub returns-clause-edges : goal.returns-clause-edges
returns-clause-edges c = λ all. edges-all (segment_of c.args.segment).parents (parents_left c.parents.rest) c.args.place c.parents.found.items c.in_default.ensures.steps.0 c.parents.invariant.edges
