use Rattle.std.proofs.Common.{refl, inr, lit≤, lit<, [], ◌∷◌}
use Rattle.gated_log.proofs.examples.Goals as goal

pub returns-clause-damaged : goal.returns-clause-damaged
returns-clause-damaged c = (lit≤ tt, [], 0 ∷ 0 ∷ 0 ∷ 0 ∷ 0 ∷ 0 ∷ 0 ∷ 5 ∷ 170 ∷ [], tt, refl, refl, inr (lit< tt))

pub returns-clause-closed_anew : goal.returns-clause-closed_anew
returns-clause-closed_anew c = λ limit log l. (l.fresh (lit≤ tt)).1
