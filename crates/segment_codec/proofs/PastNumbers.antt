-- Numbers that are passed over: each ends with its first byte below 128.
use Rattle.std.proofs.Common.{◌≡◌, ℕ, zero, suc, ◌+◌, ◌-◌, ◌/◌, ◌%◌, ◌^◌, ◌<◌, ◌≤◌, Bool, true, false, cond, ltb, List, [], ◌∷◌, ◌++◌, length, take, drop, get_or, refl, sym, ap, ◌∙◌, append_assoc, arith, lit≤}
use Rattle.std.specs.List.{flat_map, AllByRecursion}
use Rattle.std.proofs.lemmas.Bool.{ltb-false, le-ltb, lt-ltb}
use Rattle.std.proofs.lemmas.List.{drop_more, take_rest}
use Rattle.std.proofs.lemmas.List.Concat.{flat_map-cons}
use Rattle.segment_codec.specs.Number.{groups_of, number_bytes, HasNumber}
use Rattle.segment_codec.proofs.Numbers.{groups_end, long_group}

-- the bytes behind the first one below 128
abbrev pub past : List ℕ → List ℕ
past [] = []
past (byte ∷ bytes) = cond (ltb byte 128) bytes (past bytes)

pub past-last : (first : ℕ) (others : List ℕ) → first < 128 → past (first ∷ others) ≡ others
past-last first others lt = let t = lt-ltb first 128 lt in rw t refl

pub past-more : (first : ℕ) (others : List ℕ) → 128 ≤ first → past (first ∷ others) ≡ past others
past-more first others le = let t = le-ltb first 128 le in rw t refl

past-case : (k n : ℕ) (rest : List ℕ) (b : Bool) → ltb n 128 ≡ b → n < groups_end (suc k)
    → ((m : ℕ) → m < groups_end k → 0 < k → past (groups_of k m ++ rest) ≡ rest)
    → past (groups_of (suc k) n ++ rest) ≡ rest
past-case k n rest true t lt again = rw (t, t) refl
past-case zero n rest false t lt again = absurd (omega (arith, ltb-false n 128 t, lt))
past-case (suc k) n rest false t lt again =
    let high : 128 ≤ n = ltb-false n 128 t in
    ap (λ bytes. past (bytes ++ rest)) (long_group (suc k) n high) ∙ past-more (n % 128 + 128) (groups_of (suc k) (n / 128) ++ rest) (omega arith) ∙ again (n / 128) (omega (arith, lt)) (omega arith)

past-groups : (k n : ℕ) (rest : List ℕ) → n < groups_end (suc k) → past (groups_of (suc k) n ++ rest) ≡ rest
past-groups zero n rest lt = past-case zero n rest (ltb n 128) refl lt (λ m below none. absurd (omega (arith, none)))
past-groups (suc k) n rest lt = past-case (suc k) n rest (ltb n 128) refl lt (λ m below some. past-groups k m rest below)

pub past-number : (n : ℕ) (rest : List ℕ) → n < 2 ^ 64 → past (number_bytes n ++ rest) ≡ rest
unfolding number_bytes
past-number n rest lt = let k : 2 ^ 64 ≤ groups_end 10 = lit≤ tt in past-groups 9 n rest (omega (arith, k, lt))

-- a byte at a place, which is a number's last one or isn't
pub past-last-at : (bytes : List ℕ) (i : ℕ) → i < length bytes → get_or bytes i 0 < 128 → past (drop i bytes) ≡ drop (i + 1) bytes
past-last-at bytes i in-bytes small = ap past (drop_more bytes i 0 in-bytes) ∙ past-last (get_or bytes i 0) (drop (i + 1) bytes) small

pub past-more-at : (bytes : List ℕ) (i : ℕ) → i < length bytes → 128 ≤ get_or bytes i 0 → past (drop i bytes) ≡ past (drop (i + 1) bytes)
past-more-at bytes i in-bytes large = ap past (drop_more bytes i 0 in-bytes) ∙ past-more (get_or bytes i 0) (drop (i + 1) bytes) large

-- the number in front takes k bytes
pub behind-so : (bytes : List ℕ) (k : ℕ) → past bytes ≡ drop k bytes
    → (n : ℕ) (rest : List ℕ) → HasNumber n → bytes ≡ number_bytes n ++ rest → take (length bytes - k) (drop k bytes) ≡ rest
behind-so bytes k ends n rest fits whole = take_rest bytes k ∙ sym ends ∙ ap past whole ∙ past-number n rest fits

-- so many numbers stand in front of the rest, k of which are passed
pub record Left (count k : ℕ) (bytes rest : List ℕ) : Type 0 where
  pub left : List ℕ
  pub numbers : AllByRecursion HasNumber left
  pub many : k + length left ≡ count
  pub whole : bytes ≡ flat_map number_bytes left ++ rest

abbrev pub PassSoFar : ℕ → ℕ → List ℕ → List ℕ → Type 0
PassSoFar count k bytes now = (ns rest : List ℕ) → AllByRecursion HasNumber ns → length ns ≡ count → bytes ≡ flat_map number_bytes ns ++ rest → Left count k now rest

pass-left : (count k : ℕ) (now next rest : List ℕ) → k < count → ((n : ℕ) (behind : List ℕ) → HasNumber n → now ≡ number_bytes n ++ behind → next ≡ behind)
    → (left : List ℕ) → AllByRecursion HasNumber left → k + length left ≡ count → now ≡ flat_map number_bytes left ++ rest → Left count (k + 1) next rest
pass-left count k now next rest lt step [] numbers many whole = absurd (omega (arith, lt, many))
pass-left count k now next rest lt step (n ∷ ns) numbers many whole = record {
  left = ns;
  numbers = numbers.1;
  many = omega (arith, many);
  whole = step n (flat_map number_bytes ns ++ rest) numbers.0 (whole ∙ ap (λ z. z ++ rest) (flat_map-cons number_bytes n ns) ∙ append_assoc (number_bytes n) (flat_map number_bytes ns) rest);
}

pub pass-next : (count k : ℕ) (bytes now next : List ℕ) → k < count → ((n : ℕ) (behind : List ℕ) → HasNumber n → now ≡ number_bytes n ++ behind → next ≡ behind)
    → PassSoFar count k bytes now → PassSoFar count (k + 1) bytes next
pass-next count k bytes now next lt step h = λ ns rest numbers many whole.
    let l = h ns rest numbers many whole in
    pass-left count k now next rest lt step l.left l.numbers l.many l.whole
