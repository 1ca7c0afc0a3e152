use Rattle.std.proofs.Common.{◌∙◌, List, map, ap, ap₂}
use Rattle.assign_ids.specs.declared.graph.Node.{Node}
use Rattle.flush_plan.specs.declared.graph.Place.{Place}
use Rattle.change_parts.specs.Moves.{node_of}
use Rattle.flush_plan.specs.Places.{node_row_at}
use Rattle.flush_plan.proofs.PlaceRows.{node-rows}
use Rattle.flush_plan.proofs.graph.Graph.nodes.Goals as goal

pub returns : goal.returns
returns c =
    ap₂ {C = List (List Node)} (λ (ns : List Node) (ps : List Place). map (node_row_at ns) ps) (c.in_ok-nodes.ensures ∙ ap (map node_of) c.deref.ensures.value) c.deref-2.ensures.value
    ∙ node-rows c.self.inside.places.items c.self.inside.ids.items
    ∙ ap (map (map node_of)) c.self.view_is
