use Rattle.std.proofs.Common.{◌∙◌, ◌+◌, ◌*◌, ◌++◌, ◌∷◌, [], List, ℕ, ap, sym, arith, ◌≡◌}
use Rattle.name_map.specs.Part.{PlainPart}
use Rattle.name_map.specs.Added.{every}
use Rattle.name_map.proofs.Places.{every-more}
use Rattle.name_map.proofs.part.Part.places.Goals as goal

pub ids-preserved : goal.ids-preserved
ids-preserved c =
    let start : c.self.inside.start ≡ c.args.self.now.start = ap (λ (p : PlainPart). p.start) c.self.view_is in
    let place : c.self.inside.start + 28 * c.ids.i + 8 ≡ c.args.self.now.start + 8 + 28 * c.ids.i = omega (arith, start) in
    c.in_ok-push.ensures.items
    ∙ ap (λ (z : List ℕ). z ++ (c.self.inside.start + 28 * c.ids.i + 8) ∷ []) c.ids.invariant
    ∙ ap (λ (n : ℕ). every (c.args.self.now.start + 8) 28 c.ids.i ++ n ∷ []) place
    ∙ sym (every-more (c.args.self.now.start + 8) 28 c.ids.i)
