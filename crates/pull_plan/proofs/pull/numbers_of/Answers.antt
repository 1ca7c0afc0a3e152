use Rattle.std.proofs.Common.{◌∙◌, ◌++◌, ◌∷◌, [], map, take, ap, sym}
use Rattle.assign_ids.specs.Numbers.{others_of}
use Rattle.change_parts.specs.Moves.{node_of}
use Rattle.flush_plan.proofs.Finding.{others-more}
use Rattle.change_parts.proofs.Marking.{nodes-next}
use Rattle.pull_plan.proofs.pull.numbers_of.Goals as goal

pub ids-preserved : goal.ids-preserved
ids-preserved c =
    c.in_ok-add_number.ensures ∙ ap (λ l. l ++ others_of (node_of c.id-item.result ∷ [])) c.ids.invariant
    ∙ sym (others-more (map node_of (take c.ids.id-index c.args.ids.now)) (node_of c.id-item.result))
    ∙ ap others_of (sym (nodes-next c.args.ids.now c.ids.id-index c.id-item.result c.ids-test.true c.id-item.is))
