use Rattle.std.proofs.Common.{◌∙◌, ap, sym, ℕ, List, ◌∷◌, [], ◌++◌, ◌+◌, ◌*◌}
use Rattle.name_map.specs.Added.{every}
use Rattle.name_map.proofs.Places.{every-more}
use Rattle.name_map.proofs.adding.places_every.Goals as goal

pub places-preserved : goal.places-preserved
places-preserved c =
    c.in_ok-push.ensures.items
    ∙ ap (λ (z : List ℕ). z ++ (c.args.first + c.args.step * c.from.result) ∷ []) c.places.invariant
    ∙ ap (λ (n : ℕ). every c.args.first c.args.step c.places.i ++ (c.args.first + c.args.step * n) ∷ []) c.from.ensures
    ∙ sym (every-more c.args.first c.args.step c.places.i)
