-- Numbers of a few bytes, read without a loop: byte by byte from the last one to the first.
use Rattle.std.proofs.Common.{◌≡◌, ℕ, ◌+◌, ◌-◌, ◌*◌, ◌%◌, ◌^◌, ◌<◌, ◌≤◌, false, eqb, List, ◌∷◌, length, take, drop, get_or, Some, refl, sym, ap, ◌∙◌, arith}
use Rattle.std.proofs.lemmas.Bool.{lt-ltb, le-ltb, ne_eqb}
use Rattle.std.proofs.lemmas.List.{drop_more, take_rest}
use Rattle.segment_codec.specs.Reading.{group_below, long_number_at, number_at}
use Rattle.segment_codec.proofs.Numbers.{IsBytes}

only-byte : (first : ℕ) (others : List ℕ) → first < 128 → long_number_at (first ∷ others) ≡ Some (first, others)
unfolding long_number_at
only-byte first others lt = let t = lt-ltb first 128 lt in rw t refl

more-bytes : (first : ℕ) (others : List ℕ) → 128 ≤ first → long_number_at (first ∷ others) ≡ group_below (first - 128) (long_number_at others)
unfolding long_number_at
more-bytes first others le = let t = le-ltb first 128 le in rw t refl

-- the last byte of a number stands at this place
pub last-at : (bytes : List ℕ) (i : ℕ) → i < length bytes → get_or bytes i 0 < 128
    → long_number_at (drop i bytes) ≡ Some (get_or bytes i 0, drop (i + 1) bytes)
last-at bytes i in-bytes small = ap long_number_at (drop_more bytes i 0 in-bytes) ∙ only-byte (get_or bytes i 0) (drop (i + 1) bytes) small

-- a byte at this place, behind which a number other than 0 stands
pub more-at : (bytes : List ℕ) (i n : ℕ) (rest : List ℕ) → IsBytes bytes → i < length bytes → 128 ≤ get_or bytes i 0 → 0 < n
    → long_number_at (drop (i + 1) bytes) ≡ Some (n, rest) → long_number_at (drop i bytes) ≡ Some (get_or bytes i 0 % 128 + 128 * n, rest)
more-at bytes i n rest fits in-bytes large some behind =
    let first = get_or bytes i 0 in
    let group : first - 128 ≡ first % 128 = let lt : first < 256 = fits i in omega (arith, large, lt) in
    let test : eqb n 0 ≡ false = ne_eqb n 0 (λ e. absurd (omega (arith, e, some))) in
    ap long_number_at (drop_more bytes i 0 in-bytes) ∙ more-bytes first (drop (i + 1) bytes) large ∙ rw (behind, test, group) refl

-- such a number in front of bytes, k of which it takes
pub short-number : (bytes : List ℕ) (k n value : ℕ) → value ≡ n → n < 2 ^ 64 → long_number_at bytes ≡ Some (n, drop k bytes)
    → number_at bytes ≡ Some (value, take (length bytes - k) (drop k bytes))
unfolding number_at
short-number bytes k n value same small is =
    let t = lt-ltb n (2 ^ 64) small in
    rw (is, t, same, take_rest bytes k) refl

-- four bytes, behind which a number other than 0 stands
pub four-more : (bytes : List ℕ) (value n : ℕ) (rest : List ℕ) → IsBytes bytes → 4 ≤ length bytes
    → 128 ≤ get_or bytes 0 0 → 128 ≤ get_or bytes 1 0 → 128 ≤ get_or bytes 2 0 → 128 ≤ get_or bytes 3 0
    → value ≡ get_or bytes 0 0 % 128 + 128 * (get_or bytes 1 0 % 128) + 16384 * (get_or bytes 2 0 % 128 + 128 * (get_or bytes 3 0 % 128))
    → 0 < n → long_number_at (drop 4 bytes) ≡ Some (n, rest) → long_number_at bytes ≡ Some (value + 268435456 * n, rest)
four-more bytes value n rest fits len first second third fourth is some behind =
    let four = more-at bytes 3 n rest fits (omega (arith, len)) fourth some behind in
    let three = more-at bytes 2 _ _ fits (omega (arith, len)) third (omega (arith, some)) four in
    let two = more-at bytes 1 _ _ fits (omega (arith, len)) second (omega (arith, some)) three in
    let one = more-at bytes 0 _ _ fits (omega (arith, len)) first (omega (arith, some)) two in
    let whole : get_or bytes 0 0 % 128 + 128 * (get_or bytes 1 0 % 128 + 128 * (get_or bytes 2 0 % 128 + 128 * (get_or bytes 3 0 % 128 + 128 * n)))
    ≡ value + 268435456 * n = omega (arith, is) in
    one ∙ ap (λ (v : ℕ). Some (v, rest)) whole

-- a number's last byte, in front
pub last-first : (bytes : List ℕ) → 1 ≤ length bytes → get_or bytes 0 0 < 128
    → long_number_at bytes ≡ Some (get_or bytes 0 0, take (length bytes - 1) (drop 1 bytes))
last-first bytes len small = last-at bytes 0 len small ∙ ap (λ (rest : List ℕ). Some (get_or bytes 0 0, rest)) (sym (take_rest bytes 1))

-- a long number that fits
pub fits-so : (bytes : List ℕ) (n value : ℕ) (rest : List ℕ) → value ≡ n → n < 2 ^ 64 → long_number_at bytes ≡ Some (n, rest)
    → number_at bytes ≡ Some (value, rest)
unfolding number_at
fits-so bytes n value rest same small is =
    let t = lt-ltb n (2 ^ 64) small in
    rw (is, t, same) refl

-- a byte below 128 is a number
pub one-byte : (byte : ℕ) (rest : List ℕ) → byte < 128 → number_at (byte ∷ rest) ≡ Some (byte, rest)
one-byte byte rest small = fits-so (byte ∷ rest) byte byte rest refl (omega (arith, small)) (only-byte byte rest small)
