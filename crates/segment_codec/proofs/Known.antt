-- A record that is known to be one: what is read before its parents, and where these end.
use Rattle.std.proofs.Common.{◌≡◌, ℕ, ◌+◌, ◌-◌, ◌%◌, ◌^◌, ◌<◌, ◌≤◌, List, [], ◌∷◌, ◌++◌, length, take, drop, get_or, refl, sym, ap, subst, ◌∙◌, ⊎_elim, arith, lit≤}
use Rattle.std.specs.Prelude.{Some}
use Rattle.std.specs.List.{flat_map, AllByRecursion}
use Rattle.std.specs.Int.{w64, from_be_bytes}
use Rattle.std.proofs.lemmas.List.{take_at, take_rest, length-append}
use Rattle.std.proofs.lemmas.Nat.{from_be_bytes-to_be_bytes_8}
use Rattle.id_groups.specs.Id.{id_end}
use Rattle.segment_codec.specs.declared.head.Head.{Head}
use Rattle.segment_codec.specs.Number.{number_bytes, numbers_in, HasNumber}
use Rattle.segment_codec.specs.Record.{Segment, IsSegment, segment_bytes, flags_of}
use Rattle.segment_codec.specs.Reading.{head_at}
use Rattle.segment_codec.proofs.Numbers.{some_is, number_last, number_next}
use Rattle.segment_codec.proofs.Tables.{le_or_lt}
use Rattle.segment_codec.proofs.Lists.{in-numbers, all-below}
use Rattle.segment_codec.proofs.Records.{spelled, segment-spelled, few-parents, most-any, head-of-record}

pub record Passed (s : Segment) (rest : List ℕ) (head : Head) (parents after : List ℕ) : Type 0 where
  pub head_is : head ≡ record { low = s.low; high = s.high; level = s.level; count = length s.parents }
  pub parents_are : parents ≡ flat_map number_bytes s.parents
  pub after_is : after ≡ rest

parents-numbers : (s : Segment) → IsSegment s → AllByRecursion HasNumber s.parents
parents-numbers s is =
    let k : id_end ≤ 2 ^ 64 = lit≤ tt in
    let up = is.ascending in let valid = is.valid in
    all-below s.low (2 ^ 64) s.parents (omega (arith, k, up, valid)) is.below

pub passed : (bytes behind parents after : List ℕ) (head : Head) (s : Segment) (rest : List ℕ) → IsSegment s → bytes ≡ segment_bytes s ++ rest
    → head_at bytes ≡ Some (head, behind)
    → ((ns r : List ℕ) → AllByRecursion HasNumber ns → length ns ≡ head.count → behind ≡ flat_map number_bytes ns ++ r → after ≡ r)
    → parents ≡ take (length behind - length after) behind → Passed s rest head parents after
passed bytes behind parents after head s rest is whole read pass part =
    let a : Head × List ℕ = (head, behind) in
    let b : Head × List ℕ = (record { low = s.low; high = s.high; level = s.level; count = length s.parents }, flat_map number_bytes s.parents ++ rest) in
    let same = some_is a b (sym read ∙ ap head_at whole ∙ head-of-record s rest is) in
    let head_is = ap (λ (z : Head × List ℕ). z.0) same in
    let behind_is = ap (λ (z : Head × List ℕ). z.1) same in
    let after_is = pass s.parents rest (parents-numbers s is) (sym (ap (λ (h : Head). h.count) head_is)) behind_is in
    let ends : length (flat_map number_bytes s.parents ++ rest) - length rest ≡ length (flat_map number_bytes s.parents) = let l = length-append (flat_map number_bytes s.parents) rest in omega (arith, l) in
    record {
      head_is = head_is;
      parents_are = part
          ∙ ap (λ (z : List ℕ). take (length z - length after) z) behind_is
          ∙ ap (λ (z : List ℕ). take (length (flat_map number_bytes s.parents ++ rest) - length z) (flat_map number_bytes s.parents ++ rest)) after_is
          ∙ take_at (flat_map number_bytes s.parents) rest _ (sym ends);
      after_is = after_is;
    }

numbers-are : (s : Segment) (rest : List ℕ) (head : Head) (parents after : List ℕ) → IsSegment s → Passed s rest head parents after → numbers_in parents ≡ s.parents
numbers-are s rest head parents after is p = ap numbers_in p.parents_are ∙ in-numbers s.parents (parents-numbers s is)

-- what a lent record keeps of its parents
pub lent-numbers : (s : Segment) (rest : List ℕ) (head : Head) (parents after : List ℕ) → IsSegment s → Passed s rest head parents after
    → (parents ≡ flat_map number_bytes (numbers_in parents)) × AllByRecursion (λ p. p < head.low) (numbers_in parents)
lent-numbers s rest head parents after is p =
    let ns = numbers-are s rest head parents after is p in
    let low = ap (λ (h : Head). h.low) p.head_is in
    (p.parents_are ∙ ap (flat_map number_bytes) (sym ns), rw (ns, low) is.below)

abbrev segment_from : Head → List ℕ → Segment
segment_from head parents = record { low = head.low; high = head.high; level = head.level; parents = parents }

pub lent-whole : (s : Segment) (rest : List ℕ) (head : Head) (parents after : List ℕ) → IsSegment s → Passed s rest head parents after
    → segment_from head (numbers_in parents) ≡ s
lent-whole s rest head parents after is p =
    ap (λ (h : Head). segment_from h (numbers_in parents)) p.head_is
    ∙ ap (segment_from (record { low = s.low; high = s.high; level = s.level; count = length s.parents })) (numbers-are s rest head parents after is p)

-- the lowest id isn't above the highest, and this has 57 bits
pub lent-order : (s : Segment) (rest : List ℕ) (head : Head) (parents after : List ℕ) → IsSegment s → Passed s rest head parents after
    → (head.low ≤ head.high) × (head.high < 2 ^ 57)
lent-order s rest head parents after is p =
    let k : id_end ≤ 2 ^ 57 = lit≤ tt in
    let low = ap (λ (h : Head). h.low) p.head_is in
    let high = ap (λ (h : Head). h.high) p.head_is in
    let up = is.ascending in let valid = is.valid in
    (omega (arith, low, high, up), omega (arith, k, high, valid))

-- ---- what stands before the parents, where two numbers take a byte each

-- a number whose first byte is below 128 is that byte
one-group : (n : ℕ) (rest : List ℕ) → n < 2 ^ 64 → get_or (number_bytes n ++ rest) 0 0 < 128 → number_bytes n ≡ n ∷ []
one-group n rest lt small = ⊎_elim
    (λ (le : 128 ≤ n).
    let next = number_next n le lt in
    let first : get_or (number_bytes n ++ rest) 0 0 ≡ n % 128 + 128 = ap (λ (z : List ℕ). get_or (z ++ rest) 0 0) next in
    absurd (omega (arith, first, small)))
    (λ (below : n < 128). number_last n below)
    (le_or_lt 128 n)

-- the eight bytes of a number behind two others
abbrev pub fixed_in : List ℕ → ℕ
fixed_in bytes = from_be_bytes w64 (get_or bytes 2 0 ∷ get_or bytes 3 0 ∷ get_or bytes 4 0 ∷ get_or bytes 5 0 ∷ get_or bytes 6 0 ∷ get_or bytes 7 0 ∷ get_or bytes 8 0 ∷ get_or bytes 9 0 ∷ [])

pub record ShortHead (bytes : List ℕ) (level high span count : ℕ) (tail : List ℕ) : Type 0 where
  pub level_is : get_or bytes 1 0 ≡ level
  pub high_is : fixed_in bytes ≡ high
  pub span_is : get_or bytes 10 0 ≡ span
  pub count_is : get_or bytes 11 0 ≡ count
  pub tail_is : drop 12 bytes ≡ tail

short-head : (flags level high span count : ℕ) (tail : List ℕ) → high < 2 ^ 64 → span < 2 ^ 64 → count < 2 ^ 64
    → get_or (spelled flags level high span count tail) 10 0 < 128 → get_or (spelled flags level high span count tail) 11 0 < 128
    → ShortHead (spelled flags level high span count tail) level high span count tail
short-head flags level high span count tail h s c small few =
    let first = one-group span (number_bytes count ++ tail) s small in
    let second = one-group count tail c (rw first at few) in
    rw (first, second) (record {
      level_is = refl;
      high_is = from_be_bytes-to_be_bytes_8 high h;
      span_is = refl;
      count_is = refl;
      tail_is = refl;
    })

pub known-front : (bytes : List ℕ) (s : Segment) (rest : List ℕ) → IsSegment s → bytes ≡ segment_bytes s ++ rest → get_or bytes 10 0 < 128 → get_or bytes 11 0 < 128
    → ShortHead bytes s.level s.high (s.high - s.low) (length s.parents) (flat_map number_bytes s.parents ++ rest)
known-front bytes s rest is whole small few =
    let k : id_end ≤ 2 ^ 64 = lit≤ tt in
    let valid = is.valid in
    let many = most-any s.level (length s.parents) (few-parents s.level s.parents is.level_parents) in
    let parts = whole ∙ segment-spelled s rest in
    let span = subst (λ (z : List ℕ). get_or z 10 0 < 128) parts small in
    let count = subst (λ (z : List ℕ). get_or z 11 0 < 128) parts few in
    let tail = flat_map number_bytes s.parents ++ rest in
    subst (λ (z : List ℕ). ShortHead z s.level s.high (s.high - s.low) (length s.parents) tail) (sym parts)
    (short-head (flags_of s.parents) s.level s.high (s.high - s.low) (length s.parents) tail (omega (arith, k, valid)) (omega (arith, k, valid)) (omega (arith, many)) span count)

-- what stands there is read
pub known-head : (bytes : List ℕ) (high span count : ℕ) (s : Segment) (rest : List ℕ) → IsSegment s → bytes ≡ segment_bytes s ++ rest
    → get_or bytes 10 0 < 128 → get_or bytes 11 0 < 128 → high ≡ fixed_in bytes → span ≡ get_or bytes 10 0 → count ≡ get_or bytes 11 0
    → head_at bytes ≡ Some (record { low = high - span; high = high; level = get_or bytes 1 0; count = count }, take (length bytes - 12) (drop 12 bytes))
known-head bytes high span count s rest is whole small few high_is span_is count_is =
    let f = known-front bytes s rest is whole small few in
    let up = is.ascending in
    let low : s.high - (s.high - s.low) ≡ s.low = omega (arith, up) in
    rw (high_is ∙ f.high_is, span_is ∙ f.span_is, count_is ∙ f.count_is, f.level_is, take_rest bytes 12 ∙ f.tail_is, low)
    (ap head_at whole ∙ head-of-record s rest is)
