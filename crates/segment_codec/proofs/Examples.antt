-- What holds of each number from one on.
use Rattle.std.proofs.Common.{◌≡◌, ℕ, zero, suc, ◌+◌, ◌<◌, ◌≤◌, subst, arith, ⊎_elim}
use Rattle.std.specs.Prelude.{⊤}
use Rattle.segment_codec.proofs.Tables.{le_or_lt}

-- it holds of so many numbers from low on
abbrev pub AllFrom : (ℕ → Type 0) → ℕ → ℕ → Type 0
AllFrom P low zero = ⊤
AllFrom P low (suc n) = P low × AllFrom P (low + 1) n

pub one-of : (P : ℕ → Type 0) (low n x : ℕ) → low ≤ x → x < low + n → AllFrom P low n → P x
one-of P low zero x a b h = absurd (omega arith)
one-of P low (suc n) x a b h =
    ⊎_elim
    (λ (v : x ≤ low). let same : low ≡ x = omega arith in subst P same h.0)
    (λ (v : low < x). one-of P (low + 1) n x (omega arith) (omega arith) h.1)
    (le_or_lt x low)
