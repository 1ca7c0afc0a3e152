use Rattle.std.proofs.Common.{◌≡◌, ◌^◌, refl, arith}
use Rattle.span_set.proofs.laws.spans_spelled_out.Goals as goal

pub returns-clause-ids : goal.returns-clause-ids
returns-clause-ids c = refl

pub returns-clause-apart : goal.returns-clause-apart
returns-clause-apart c = (
  record { order = omega arith; group = λ h. omega (arith, h); bound = omega arith },
  (record { under = omega arith; apart = λ h. refl }, tt),
  (record { order = omega arith; group = λ h. omega arith; bound = omega arith }, tt, tt),
)

pub returns-clause-adjacent : goal.returns-clause-adjacent
returns-clause-adjacent c = λ h. let joined : 6 ≡ 2 ^ 56 = h.1.0.apart refl in omega (arith, joined)
