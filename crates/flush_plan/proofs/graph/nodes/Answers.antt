use Rattle.std.proofs.Common.{◌∙◌, ◌++◌, ◌∷◌, [], List, ap₂, sym}
use Rattle.assign_ids.specs.declared.graph.Node.{Node}
use Rattle.change_parts.proofs.Marking.{nodes-next}
use Rattle.flush_plan.proofs.graph.nodes.Goals as goal

pub ids-preserved : goal.ids-preserved
ids-preserved c =
    c.in_ok-push.ensures.items ∙ ap₂ {C = List Node} (λ l z. l ++ z ∷ []) c.ids.invariant c.node.ensures ∙ sym (nodes-next c.args.ids.now c.ids.id-index c.id-item.result c.ids-test.true c.id-item.is)
