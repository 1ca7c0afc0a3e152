use Rattle.std.proofs.Common.{◌<◌, ℕ}
use Rattle.segdag_c.specs.Renewed.{HasNumber}
use Rattle.segdag_c.proofs.mirroring.place_of.Given as goal

abbrev pub invariant-mirrors : goal.invariant-mirrors
invariant-mirrors l = (k : ℕ) → k < l.k → HasNumber l.list l.number k → ⊥
