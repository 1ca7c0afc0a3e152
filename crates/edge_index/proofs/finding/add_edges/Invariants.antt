use Rattle.std.proofs.Common.{ℕ, ◌⊎◌, length}
use Rattle.id_groups.specs.Lists.{IsIn}
use Rattle.segment_codec.specs.Edges.{edge_of}
use Rattle.segment_codec.specs.Lent.{segment_of, parents_left}
use Rattle.edge_index.proofs.finding.add_edges.Given as goal

abbrev pub invariant-parents : goal.invariant-parents
invariant-parents l = record {
  keeps : (e : ℕ) → IsIn e l.fn.found.items → IsIn e l.found.items;
  edges : (p : ℕ) → IsIn p (segment_of l.fn.segment).parents → IsIn p (parents_left l.rest) ⊎ IsIn (edge_of p l.fn.place) l.found.items;
}

abbrev pub decreases-parents : goal.decreases-parents
decreases-parents l = length (parents_left l.rest)
