use Rattle.std.proofs.Common.{⊎_elim, arith, lit≤, lit<, [], ◌∷◌}
use Rattle.disk_trait.proofs.Loss.{torn-left}
use Rattle.disk_trait.proofs.torn_write.Goals as goal

pub returns-clause-unwritten : goal.returns-clause-unwritten
returns-clause-unwritten c = torn-left (2 ∷ 3 ∷ []) (lit≤ tt) (lit≤ tt)

pub returns-clause-torn : goal.returns-clause-torn
returns-clause-torn c = torn-left (7 ∷ 3 ∷ 9 ∷ []) (lit≤ tt) (lit≤ tt)

pub returns-clause-first : goal.returns-clause-first
returns-clause-first c = λ image i. i.stable 0 (lit< tt) (λ w. ⊎_elim (λ p. absurd (omega (arith, p.0))) (λ e. e) w)

pub returns-clause-size : goal.returns-clause-size
returns-clause-size c = λ image i. (i.no_shorter, i.no_longer)
