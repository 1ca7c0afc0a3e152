-- Parents that are of master or of the other group.
use Rattle.std.proofs.Common.{◌≡◌, ℕ, ◌<◌, ◌≤◌, ◌^◌, ◌||◌, ◌&&◌, ◌⊎◌, true, false, Bool, List, [], ◌∷◌, inl, inr, refl, sym, ap, ◌∙◌, arith}
use Rattle.std.specs.Prelude.{nat_lt, nat_le}
use Rattle.std.proofs.lemmas.Bool.{lt-ltb, le-leb, cases_lt}
use Rattle.batch_codec.specs.Reading.{are_within}

-- below an end behind all master ids each number is of one group or the other
pub all-within : (end : ℕ) (ns : List ℕ) → 2 ^ 56 ≤ end → true ≡ are_within end ns
all-within end [] le = refl
all-within end (n ∷ ns) le = all-within end ns le ∙ one (cases_lt n end)
  where
    second : (a : Bool) → true ≡ (a || true)
    second true = refl
    second false = refl

    one : (n < end) ⊎ (end ≤ n) → are_within end ns ≡ ((nat_lt n end || nat_le (2 ^ 56) n) && are_within end ns)
    one (inl lt) = sym (ap (λ t. (t || nat_le (2 ^ 56) n) && are_within end ns) (lt-ltb n end lt))
    one (inr ge) =
        ap (λ t. t && are_within end ns) (second (nat_lt n end))
        ∙ sym (ap (λ t. (nat_lt n end || t) && are_within end ns) (le-leb (2 ^ 56) n (omega (arith, le, ge))))
