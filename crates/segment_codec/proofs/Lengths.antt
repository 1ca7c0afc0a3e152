-- How many bytes numbers take.
use Rattle.std.proofs.Common.{◌≡◌, ℕ, zero, suc, ◌+◌, ◌-◌, ◌*◌, ◌/◌, ◌^◌, ◌<◌, ◌≤◌, Bool, true, false, ltb, List, [], ◌∷◌, ◌++◌, length, drop, refl, sym, ap, ◌∙◌, append_assoc, arith, lit≤}
use Rattle.std.specs.List.{flat_map, AllByRecursion}
use Rattle.std.specs.Int.{w64, to_be_bytes}
use Rattle.std.proofs.lemmas.List.{length-append, drop_at}
use Rattle.std.proofs.lemmas.List.Concat.{flat_map-cons}
use Rattle.std.proofs.lemmas.Bool.{ltb-true, ltb-false}
use Rattle.id_groups.specs.Id.{id_end}
use Rattle.segment_codec.specs.Number.{groups_of, number_bytes, numbers_in}
use Rattle.segment_codec.specs.Record.{Segment, flags_of, segment_bytes, head_bytes, parents_bytes}
use Rattle.segment_codec.specs.Flat.{IsFlat}
use Rattle.segment_codec.proofs.Numbers.{groups_end, short_group, long_group, number_last}
use Rattle.segment_codec.proofs.Lists.{all-below, in-numbers}
use Rattle.segment_codec.proofs.Flats.{few-flat}

-- no more bytes than there is room for
fit-case : (k n : ℕ) (b : Bool) → ltb n 128 ≡ b → length (groups_of k (n / 128)) ≤ k → length (groups_of (suc k) n) ≤ suc k
fit-case k n true t more = let e = ap length (short_group k n (ltb-true n 128 t)) in omega (arith, e)
fit-case k n false t more = let e = ap length (long_group k n (ltb-false n 128 t)) in omega (arith, e, more)

groups-fit : (k n : ℕ) → length (groups_of k n) ≤ k
groups-fit zero n = omega arith
groups-fit (suc k) n = fit-case k n (ltb n 128) refl (groups-fit k (n / 128))

-- a number below the end of so many groups takes no more bytes
few-case : (m k n : ℕ) (b : Bool) → ltb n 128 ≡ b → n < groups_end (suc k)
    → ((j : ℕ) → n / 128 < groups_end (suc j) → length (groups_of m (n / 128)) ≤ suc j) → length (groups_of (suc m) n) ≤ suc k
few-case m k n true t lt more = let e = ap length (short_group m n (ltb-true n 128 t)) in omega (arith, e)
few-case m zero n false t lt more = absurd (omega (arith, ltb-false n 128 t, lt))
few-case m (suc k) n false t lt more =
    let e = ap length (long_group m n (ltb-false n 128 t)) in
    omega (arith, e, more k (omega (arith, lt)))

groups-few : (m k n : ℕ) → n < groups_end (suc k) → length (groups_of m n) ≤ suc k
groups-few zero k n lt = omega arith
groups-few (suc m) k n lt = few-case m k n (ltb n 128) refl lt (λ j below. groups-few m j (n / 128) below)

pub number-fits : (n : ℕ) → length (number_bytes n) ≤ 10
unfolding number_bytes
number-fits n = groups-fit 10 n

-- the number of an id takes at most nine bytes
pub id-fits : (n : ℕ) → n < 2 ^ 57 → length (number_bytes n) ≤ 9
unfolding number_bytes
id-fits n lt = let k : 2 ^ 57 ≤ groups_end 9 = lit≤ tt in groups-few 10 8 n (omega (arith, k, lt))

ids-fit : (ns : List ℕ) → AllByRecursion (λ p. p < 2 ^ 57) ns → length (flat_map number_bytes ns) ≤ 9 * length ns
ids-fit [] h = omega arith
ids-fit (n ∷ ns) h =
    let e = ap length (flat_map-cons number_bytes n ns) in
    let sum = length-append (number_bytes n) (flat_map number_bytes ns) in
    omega (arith, e, sum, id-fits n h.0, ids-fit ns h.1)

pub flat-parents : (s : Segment) → IsFlat s → AllByRecursion (λ p. p < 2 ^ 57) s.parents
flat-parents s h =
    let k : id_end ≤ 2 ^ 57 = lit≤ tt in
    let up = h.segment.ascending in let valid = h.segment.valid in
    all-below s.low (2 ^ 57) s.parents (omega (arith, k, up, valid)) h.segment.below

pub flat-short : (s : Segment) → IsFlat s → length (parents_bytes s) ≤ 72
flat-short s h =
    let few = few-flat s.level s.parents h.flat h.segment.level_parents in
    omega (arith, few, ids-fit s.parents (flat-parents s h))

-- the head of a flat segment's record: ten bytes, the span, and one byte for the count of parents
pub flat-head : (s : Segment) → IsFlat s → length (head_bytes s) ≡ 11 + length (number_bytes (s.high - s.low))
flat-head s h =
    let few = few-flat s.level s.parents h.flat h.segment.level_parents in
    let one = ap length (number_last (length s.parents) (omega (arith, few))) in
    let a = length-append (to_be_bytes w64 s.high) (number_bytes (s.high - s.low) ++ number_bytes (length s.parents)) in
    let b = length-append (number_bytes (s.high - s.low)) (number_bytes (length s.parents)) in
    omega (arith, one, a, b)

-- the parents stand behind the head
pub record-parts : (s : Segment) → segment_bytes s ≡ head_bytes s ++ parents_bytes s
unfolding segment_bytes
record-parts s = ap (λ (z : List ℕ). flags_of s.parents ∷ s.level ∷ z) (simp append_assoc)

-- a record in front of bytes, and its parents cut out of them
pub head-fits : (s : Segment) (bytes rest : List ℕ) → bytes ≡ segment_bytes s ++ rest → length (head_bytes s) ≤ length bytes
head-fits s bytes rest is =
    let e = ap length (is ∙ ap (λ (z : List ℕ). z ++ rest) (record-parts s) ∙ append_assoc (head_bytes s) (parents_bytes s) rest) in
    omega (arith, e, length-append (head_bytes s) (parents_bytes s ++ rest))

pub behind-head : (s : Segment) (bytes rest : List ℕ) (head : ℕ) → bytes ≡ segment_bytes s ++ rest → head ≡ length (head_bytes s)
    → drop head bytes ≡ parents_bytes s ++ rest
behind-head s bytes rest head is len =
    ap (drop head) (is ∙ ap (λ (z : List ℕ). z ++ rest) (record-parts s) ∙ append_assoc (head_bytes s) (parents_bytes s) rest)
    ∙ drop_at (head_bytes s) (parents_bytes s ++ rest) head (sym len)

-- the parents that bytes are, each below an id
pub parents-are : (low : ℕ) (ns bytes : List ℕ) → low < 2 ^ 57 → AllByRecursion (λ p. p < low) ns → bytes ≡ flat_map number_bytes ns → numbers_in bytes ≡ ns
parents-are low ns bytes lt below is =
    let k : 2 ^ 57 ≤ 2 ^ 64 = lit≤ tt in
    ap numbers_in is ∙ in-numbers ns (all-below low (2 ^ 64) ns (omega (arith, k, lt)) below)
