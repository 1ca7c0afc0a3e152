-- Prefixes, blanks and numbers of a line.
use Rattle.std.proofs.Common.{◌≡◌, ◌==◌, ◌<◌, ◌≤◌, ◌+◌, ◌-◌, ◌^◌, ℕ, length, get_or, List, [], ◌∷◌, ◌++◌, take, drop, refl, sym, ◌∙◌, ap, subst, arith, decimal, Some, None, true, false, true≢false}
use Rattle.std.specs.Prelude.{position, Bool, not, ◌&&◌}
use Rattle.std.specs.Char.{digit_value}
use Rattle.std.specs.Str.Parse.{AllDigits}
use Rattle.std.proofs.lemmas.Fmt.{decimal_is_IsNumeral, decimal_injective, decimal_digit}
use Rattle.std.proofs.lemmas.Bool.{ne_eqb}
use Rattle.outside.specs.Parts.{HasNone}
use Rattle.outside.proofs.PartsLemmas.{position-none, position-some}
use Rattle.id_groups.proofs.Listing.{and_true}
use Rattle.set_expr.proofs.Marks.{part-same}

-- bytes that hold a byte before others hold it
pub none-in : (mark : ℕ) (xs ys : List ℕ) → ¬ (HasNone mark (xs ++ mark ∷ ys))
none-in mark [] ys h = let same : (mark == mark) ≡ true = grind arith in true≢false (sym same ∙ h.0)
none-in mark (x ∷ xs) ys h = none-in mark xs ys h.1

blank-no-digit : digit_value 32 < 10 → ⊥
blank-no-digit h = omega (arith, h)

-- a decimal has no blank
none-digit : (xs : List ℕ) → AllDigits 10 xs → HasNone 32 xs
none-digit [] all = tt
none-digit (b ∷ xs) all = (ne_eqb b 32 (λ same. blank-no-digit (let P : ℕ → Type 0 = λ n. digit_value n < 10 in subst P same all.0)), none-digit xs all.1)

pub number-no-blank : (n : ℕ) → n < 2 ^ 64 → HasNone 32 (decimal n)
number-no-blank n h = none-digit (decimal n) (decimal_is_IsNumeral n h).0.1

module _ (line : List ℕ) (s : ℕ) (text : List ℕ) (small : s < 16) (is : line ≡ decimal s ++ 32 ∷ text) where
  -- a line that begins with a number and a blank has one
  pub some-blank : position (λ b. b == 32) line ≡ None → ⊥
  some-blank none = none-in 32 (decimal s) text (subst (HasNone 32) is (position-none 32 line none))

  -- the number stands before the first one
  pub number-front : (len : ℕ) → position (λ b. b == 32) line ≡ Some len → take len line ≡ decimal s
  number-front len at =
      let found = position-some 32 line len at in
      (part-same 32 (take len line) (drop (len + 1) line) (decimal s) text found.part (number-no-blank s (omega (arith, small))) (sym found.whole ∙ is)).0

-- a line is the number before its first blank, the blank, and what stands behind
pub session-line : (line rest : List ℕ) (len n : ℕ) → position (λ b. b == 32) line ≡ Some len → take len line ≡ decimal n → rest ≡ drop (len + 1) line → line ≡ decimal n ++ 32 ∷ rest
session-line line rest len n at front behind =
    (position-some 32 line len at).whole ∙ ap (λ (t : List ℕ). t ++ 32 ∷ drop (len + 1) line) front ∙ ap (λ (t : List ℕ). decimal n ++ 32 ∷ t) (sym behind)

-- the number stands before the blank alone
pub same-session : (line : List ℕ) (len s t : ℕ) (text : List ℕ) → position (λ b. b == 32) line ≡ Some len → take len line ≡ decimal s → s < 2 ^ 64
    → t < 16 → line ≡ decimal t ++ 32 ∷ text → s ≡ t
same-session line len s t text at front bound small is = decimal_injective s t bound (omega (arith, small)) (sym front ∙ number-front line t text small is len at)

-- a text is what stands before its first blank, the blank, and what stands behind
pub blank-split : (text front rest : List ℕ) (len : ℕ) → position (λ b. b == 32) text ≡ Some len → front ≡ take len text → rest ≡ drop (len + 1) text
    → HasNone 32 front × (text ≡ front ++ 32 ∷ rest)
blank-split text front rest len at before behind =
    let found = position-some 32 text len at in
    (subst (HasNone 32) (sym before) found.part, found.whole ∙ ap (λ (t : List ℕ). t ++ 32 ∷ drop (len + 1) text) (sym before) ∙ ap (λ (t : List ℕ). front ++ 32 ∷ t) (sym behind))

-- the test of a text that is given
abbrev pub is_clear : ℕ → List ℕ → Bool
is_clear mark [] = true
is_clear mark (b ∷ bs) = not (b == mark) && is_clear mark bs

false-of : (b : Bool) → not b ≡ true → b ≡ false
false-of true h = sym h
false-of false h = refl

pub clear : (text : List ℕ) → is_clear 32 text ≡ true → HasNone 32 text
clear [] h = tt
clear (b ∷ bs) h = let p = and_true (not (b == 32)) (is_clear 32 bs) h in (false-of (b == 32) p.0, clear bs p.1)

-- one digit is the decimal of its value
pub one-digit : (text : List ℕ) (n : ℕ) → 1 ≤ length text → length text < 2 → 48 ≤ get_or text 0 0 → get_or text 0 0 < 58 → n ≡ get_or text 0 0 - 48 → (n < 2 ^ 64) × (text ≡ decimal n)
one-digit [] n some short low high is = absurd (omega (arith, some))
one-digit (d ∷ e ∷ more) n some short low high is = absurd (omega (arith, short))
one-digit (d ∷ []) n some short low high is =
    let same : 48 + n ≡ d = omega (arith, low, is) in
    (omega (arith, high, is), ap (λ (x : ℕ). x ∷ []) (sym same) ∙ sym (decimal_digit n (omega (arith, high, is))))
