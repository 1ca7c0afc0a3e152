-- The first byte that is a mark, as a position.
use Rattle.std.proofs.Common.{◌≡◌, ◌∙◌, ℕ, Bool, true, false, List, length, Option, Some, None, refl, sym, ap, arith, zero-le, le_refl}
use Rattle.std.specs.Prelude.{◌==◌, nat_lt, position, if◌then◌else◌}
use Rattle.std.proofs.lemmas.Bool.{lt-ltb, le-ltb}
use Rattle.std.proofs.lemmas.List.Sums.{position_or_len_is}
use Rattle.memchr.specs.Find.{IsFirstByte, is_byte}

fails : (b : Bool) → (b ≡ true → ⊥) → b ≡ false
fails true h = absurd (h refl)
fails false h = refl

pub first-position : (mark : ℕ) (bytes : List ℕ) (r : Option ℕ) → IsFirstByte (is_byte mark) bytes r → r ≡ position (λ b. b == mark) bytes
first-position mark bytes None h =
    let e = position_or_len_is (λ b. b == mark) bytes (length bytes) 0 (le_refl _) (λ k l. fails _ (h k zero-le l)) (λ l. absurd (omega (arith, l))) in
    sym (ap (λ n. if nat_lt n (length bytes) then Some n else None) e ∙ ap (λ b. if b then Some (length bytes) else None) (le-ltb (length bytes) (length bytes) (le_refl _)))
first-position mark bytes (Some k) h =
    let below = h.0.high in
    let e = position_or_len_is (λ b. b == mark) bytes k 0 (omega (arith, below)) (λ j l. fails _ (h.0.before j zero-le l)) (λ l. h.1) in
    sym (ap (λ n. if nat_lt n (length bytes) then Some n else None) e ∙ ap (λ b. if b then Some k else None) (lt-ltb k (length bytes) below))
