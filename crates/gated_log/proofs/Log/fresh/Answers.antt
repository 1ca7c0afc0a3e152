use Rattle.std.proofs.Common.{ℕ, List, [], ◌∷◌, ◌++◌, refl, ◌∙◌, ap}
use Rattle.gated_log.proofs.Loading.{fresh_whole}
use Rattle.gated_log.proofs.Log.fresh.Goals as goal

pub invariant_of-result : goal.invariant_of-result
invariant_of-result c = (fresh_whole c.new.result.items c.push.new.self.items c.args.limit c.new.ensures.items (c.in_ok-push.ensures.items ∙ ap (λ (l : List ℕ). l ++ 0 ∷ []) c.new-bytes.ensures.items) c.requires.0 c.requires.1).0

pub returns-clause-log : goal.returns-clause-log
returns-clause-log c = let w = fresh_whole c.new.result.items c.push.new.self.items c.args.limit c.new.ensures.items (c.in_ok-push.ensures.items ∙ ap (λ (l : List ℕ). l ++ 0 ∷ []) c.new-bytes.ensures.items) c.requires.0 c.requires.1 in (w.1, w.2, refl)
