-- Numbers that take fewer bytes than an id of the others.
use Rattle.std.proofs.Common.{◌≡◌, ℕ, ◌+◌, ◌^◌, ◌<◌, ◌≤◌, ◌⊎◌, inl, inr, List, [], ◌∷◌, length, refl, ap, arith, lit≤}
use Rattle.std.specs.List.{flat_map, AllByRecursion}
use Rattle.std.proofs.lemmas.List.{length-append}
use Rattle.std.proofs.lemmas.List.Concat.{flat_map-cons}
use Rattle.segment_codec.specs.Number.{number_bytes}
use Rattle.segment_codec.proofs.Nine.{nine-groups}
use Rattle.segment_codec.proofs.Tables.{le_or_lt}

-- an id of the others takes nine bytes
long-other : (n : ℕ) → 2 ^ 56 ≤ n → n < 2 ^ 57 → length (number_bytes n) ≡ 9
long-other n le lt =
    let k : 2 ^ 57 ≤ 2 ^ 63 = lit≤ tt in
    ap length (nine-groups n _ _ _ _ _ _ _ _ le (omega (arith, k, lt)) refl refl refl refl refl refl refl refl)

-- fewer bytes spell none
pub short-masters : (ns : List ℕ) → AllByRecursion (λ p. p < 2 ^ 57) ns → length (flat_map number_bytes ns) < 9 → AllByRecursion (λ p. p < 2 ^ 56) ns
short-masters [] h lt = tt
short-masters (n ∷ ns) h lt =
    let e = ap length (flat_map-cons number_bytes n ns) in
    let sum = length-append (number_bytes n) (flat_map number_bytes ns) in (
      by_size (le_or_lt (2 ^ 56) n) (omega (arith, e, sum, lt)),
      short-masters ns h.1 (omega (arith, e, sum, lt)),
    )
  where
    by_size : (2 ^ 56 ≤ n) ⊎ (n < 2 ^ 56) → length (number_bytes n) < 9 → n < 2 ^ 56
    by_size (inl le) few = let e = long-other n le h.0 in absurd (omega (arith, e, few))
    by_size (inr small) few = small
