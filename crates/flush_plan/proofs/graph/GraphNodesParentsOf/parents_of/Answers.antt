use Rattle.std.proofs.Common.{◌∙◌, [], List, get_or, ap, ap₂}
use Rattle.assign_ids.specs.declared.graph.Node.{Node}
use Rattle.flush_plan.specs.declared.graph.Place.{Place}
use Rattle.flush_plan.specs.Places.{node_row_at}
use Rattle.flush_plan.proofs.PlaceRows.{node-row-at}
use Rattle.flush_plan.proofs.graph.GraphNodesParentsOf.parents_of.Goals as goal

pub returns : goal.returns
returns c =
    c.piece.ensures
    ∙ ap₂ {C = List Node} (λ (q : Place) l. node_row_at l q) c.place_at.ensures c.deref.ensures.value
    ∙ node-row-at c.self.inside.places.now c.self.inside.nodes.items c.args.k
    ∙ ap (λ (rows : List (List Node)). get_or rows c.args.k []) c.self.view_is
