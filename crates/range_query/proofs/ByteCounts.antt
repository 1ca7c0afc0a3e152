-- How many bytes the numbers of parents take.
use Rattle.std.proofs.Common.{◌≡◌, ℕ, zero, suc, ◌/◌, ◌<◌, ◌≤◌, Bool, true, false, ltb, List, [], ◌∷◌, length, refl, ap, arith}
use Rattle.std.specs.List.{flat_map, AllByRecursion}
use Rattle.std.proofs.lemmas.List.{length-append}
use Rattle.std.proofs.lemmas.List.Concat.{flat_map-cons}
use Rattle.std.proofs.lemmas.Bool.{ltb-true, ltb-false}
use Rattle.segment_codec.specs.Number.{groups_of, number_bytes}
use Rattle.segment_codec.proofs.Numbers.{short_group, long_group}

-- a greater number takes no fewer bytes
longer-case : (k n m : ℕ) (a b : Bool) → ltb n 128 ≡ a → ltb m 128 ≡ b → n ≤ m → length (groups_of k (n / 128)) ≤ length (groups_of k (m / 128))
    → length (groups_of (suc k) n) ≤ length (groups_of (suc k) m)
longer-case k n m true true s t le more =
    let e = ap length (short_group k n (ltb-true n 128 s)) in
    let f = ap length (short_group k m (ltb-true m 128 t)) in omega (arith, e, f)
longer-case k n m true false s t le more =
    let e = ap length (short_group k n (ltb-true n 128 s)) in
    let f = ap length (long_group k m (ltb-false m 128 t)) in omega (arith, e, f)
longer-case k n m false true s t le more = absurd (omega (arith, ltb-false n 128 s, ltb-true m 128 t, le))
longer-case k n m false false s t le more =
    let e = ap length (long_group k n (ltb-false n 128 s)) in
    let f = ap length (long_group k m (ltb-false m 128 t)) in omega (arith, e, f, more)

longer : (k n m : ℕ) → n ≤ m → length (groups_of k n) ≤ length (groups_of k m)
longer zero n m le = omega arith
longer (suc k) n m le = longer-case k n m (ltb n 128) (ltb m 128) refl refl le (longer k (n / 128) (m / 128) (omega (arith, le)))

pub number-longer : (n m : ℕ) → n ≤ m → length (number_bytes n) ≤ length (number_bytes m)
unfolding number_bytes
number-longer n m le = longer 10 n m le

-- more bytes than those of one number are of two or more
pub many-bytes : (low longest : ℕ) (ns : List ℕ) → AllByRecursion (λ p. p < low) ns → ((n : ℕ) → n ≤ low → length (number_bytes n) ≤ longest)
    → longest < length (flat_map number_bytes ns) → 2 ≤ length ns
many-bytes low longest [] below fits more = absurd (omega (arith, more))
many-bytes low longest (n ∷ []) below fits more =
    let e = ap length (flat_map-cons number_bytes n []) in
    let sum = length-append (number_bytes n) (flat_map number_bytes []) in
    let lt = below.0 in absurd (omega (arith, e, sum, fits n (omega (arith, lt)), more))
many-bytes low longest (n ∷ m ∷ ns) below fits more = omega arith
