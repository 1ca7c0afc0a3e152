use Rattle.std.proofs.Common.{◌≡◌, ◌∙◌, length, sym, subst}
use Rattle.std.specs.List.Sorted.{IsPermutation}
use Rattle.id_groups.specs.Lists.{IsIn}
use Rattle.segment_codec.specs.Edges.{edge_of}
use Rattle.edge_index.proofs.Found.{in-moved, front-whole}
use Rattle.edge_index.proofs.finding.edges_between.Goals as goal

pub returns-clause-edges : goal.returns-clause-edges
returns-clause-edges g c =
    let all = c.sort_edges.new.edges in
    let long : length all ≡ c.in_ok-found.found.len = c.sort_edges.ensures.len ∙ c.deref_mut.ensures.len in
    let moved = subst (λ l. IsPermutation l all) c.deref_mut.ensures.value c.sort_edges.ensures.permutation in
    λ k s p le lt get i. subst (IsIn (edge_of p k)) (sym (front-whole c.in_ok-found.found.len all _ (sym long)))
    (in-moved c.in_ok-found.found.items all (edge_of p k) moved (c.in_ok-found.ensures.edges k s p le lt get i))
