-- What stands before the parents of a record, where two numbers take a byte each.
use Rattle.std.proofs.Common.{◌≡◌, ℕ, ◌-◌, ◌<◌, ◌≤◌, true, false, cond, List, [], ◌∷◌, length, take, drop, get_or, Option, Some, None, refl, sym, ap, ◌∙◌, arith}
use Rattle.std.specs.Prelude.{nat_lt}
use Rattle.std.specs.Int.{w64, from_be_bytes}
use Rattle.std.proofs.lemmas.Bool.{le-ltb}
use Rattle.std.proofs.lemmas.List.{take_rest}
use Rattle.segment_codec.specs.declared.head.Head.{Head}
use Rattle.segment_codec.specs.Reading.{fixed_at, head_at, is_head}
use Rattle.segment_codec.proofs.Known.{fixed_in}
use Rattle.segment_codec.proofs.Short.{one-byte}

eight : (a b c d e f g h : ℕ) (rest : List ℕ) → fixed_at (a ∷ b ∷ c ∷ d ∷ e ∷ f ∷ g ∷ h ∷ rest) ≡ Some (from_be_bytes w64 (a ∷ b ∷ c ∷ d ∷ e ∷ f ∷ g ∷ h ∷ []), rest)
unfolding fixed_at
eight a b c d e f g h rest =
    let t : nat_lt (length (a ∷ b ∷ c ∷ d ∷ e ∷ f ∷ g ∷ h ∷ rest)) 8 ≡ false = le-ltb (length (a ∷ b ∷ c ∷ d ∷ e ∷ f ∷ g ∷ h ∷ rest)) 8 (omega arith) in
    rw t refl

abbrev head_of : ℕ → ℕ → ℕ → ℕ → Head
head_of level high span count = record { low = high - span; high = high; level = level; count = count }

spelled-head : (flags level a b c d e f g h span count : ℕ) (tail : List ℕ) → span < 128 → count < 128
    → is_head flags level (from_be_bytes w64 (a ∷ b ∷ c ∷ d ∷ e ∷ f ∷ g ∷ h ∷ [])) span count ≡ true
    → head_at (flags ∷ level ∷ a ∷ b ∷ c ∷ d ∷ e ∷ f ∷ g ∷ h ∷ span ∷ count ∷ tail) ≡ Some (head_of level (from_be_bytes w64 (a ∷ b ∷ c ∷ d ∷ e ∷ f ∷ g ∷ h ∷ [])) span count, tail)
unfolding head_at
spelled-head flags level a b c d e f g h span count tail small few is =
    let high = from_be_bytes w64 (a ∷ b ∷ c ∷ d ∷ e ∷ f ∷ g ∷ h ∷ []) in
    let first = eight a b c d e f g h (span ∷ count ∷ tail) in
    let second = one-byte span (count ∷ tail) small in
    let third = one-byte count tail few in
    rw (first, second, third) (ap (λ t. cond t (Some (head_of level high span count, tail)) None) is)

-- the head of bytes that go so far
pub short-read : (bytes : List ℕ) (high span count : ℕ) → 12 ≤ length bytes → get_or bytes 10 0 < 128 → get_or bytes 11 0 < 128
    → high ≡ fixed_in bytes → span ≡ get_or bytes 10 0 → count ≡ get_or bytes 11 0 → is_head (get_or bytes 0 0) (get_or bytes 1 0) high span count ≡ true
    → head_at bytes ≡ Some (record { low = high - span; high = high; level = get_or bytes 1 0; count = count }, take (length bytes - 12) (drop 12 bytes))
short-read [] high span count le small few high_is span_is count_is is = absurd (omega (arith, le))
short-read (flags ∷ []) high span count le small few high_is span_is count_is is = absurd (omega (arith, le))
short-read (flags ∷ level ∷ []) high span count le small few high_is span_is count_is is = absurd (omega (arith, le))
short-read (flags ∷ level ∷ a ∷ []) high span count le small few high_is span_is count_is is = absurd (omega (arith, le))
short-read (flags ∷ level ∷ a ∷ b ∷ []) high span count le small few high_is span_is count_is is = absurd (omega (arith, le))
short-read (flags ∷ level ∷ a ∷ b ∷ c ∷ []) high span count le small few high_is span_is count_is is = absurd (omega (arith, le))
short-read (flags ∷ level ∷ a ∷ b ∷ c ∷ d ∷ []) high span count le small few high_is span_is count_is is = absurd (omega (arith, le))
short-read (flags ∷ level ∷ a ∷ b ∷ c ∷ d ∷ e ∷ []) high span count le small few high_is span_is count_is is = absurd (omega (arith, le))
short-read (flags ∷ level ∷ a ∷ b ∷ c ∷ d ∷ e ∷ f ∷ []) high span count le small few high_is span_is count_is is = absurd (omega (arith, le))
short-read (flags ∷ level ∷ a ∷ b ∷ c ∷ d ∷ e ∷ f ∷ g ∷ []) high span count le small few high_is span_is count_is is = absurd (omega (arith, le))
short-read (flags ∷ level ∷ a ∷ b ∷ c ∷ d ∷ e ∷ f ∷ g ∷ h ∷ []) high span count le small few high_is span_is count_is is = absurd (omega (arith, le))
short-read (flags ∷ level ∷ a ∷ b ∷ c ∷ d ∷ e ∷ f ∷ g ∷ h ∷ s ∷ []) high span count le small few high_is span_is count_is is = absurd (omega (arith, le))
short-read (flags ∷ level ∷ a ∷ b ∷ c ∷ d ∷ e ∷ f ∷ g ∷ h ∷ s ∷ n ∷ tail) high span count le small few high_is span_is count_is is =
    let bytes = flags ∷ level ∷ a ∷ b ∷ c ∷ d ∷ e ∷ f ∷ g ∷ h ∷ s ∷ n ∷ tail in
    let fixed = from_be_bytes w64 (a ∷ b ∷ c ∷ d ∷ e ∷ f ∷ g ∷ h ∷ []) in
    let made = λ (x y z : ℕ) (t : List ℕ). (let o : Option (Head × List ℕ) = Some (head_of level x y z, t) in o) in
    spelled-head flags level a b c d e f g h s n tail small few
    (ap (λ x. is_head flags level x s n) (sym high_is) ∙ ap (λ x. is_head flags level high x n) (sym span_is) ∙ ap (λ x. is_head flags level high span x) (sym count_is) ∙ is)
    ∙ ap (λ x. made x s n tail) (sym high_is) ∙ ap (λ x. made high x n tail) (sym span_is) ∙ ap (λ x. made high span x tail) (sym count_is)
    ∙ ap (made high span count) (sym (take_rest bytes 12))
