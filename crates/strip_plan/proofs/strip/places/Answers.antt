use Rattle.std.proofs.Common.{◌∙◌, ◌++◌, ◌∷◌, [], List, ℕ, ap₂, sym}
use Rattle.strip_plan.proofs.Spreading.{places-next}
use Rattle.strip_plan.proofs.strip.places.Goals as goal

pub ids-preserved : goal.ids-preserved
ids-preserved c =
    c.in_ok-push.ensures.items ∙ ap₂ {C = List ℕ} (λ l z. l ++ z ∷ []) c.ids.invariant c.place.ensures ∙ sym (places-next c.args.ids.now c.ids.id-index c.id-item.result c.ids-test.true c.id-item.is)
