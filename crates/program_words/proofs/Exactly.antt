-- Words are a usage in one way at most, and never beside being none.
use Rattle.std.proofs.Common.{◌≡◌, ◌∙◌, ap, sym, refl, ℕ, List, Option, Some, None, [], inl, inr}
use Rattle.std.specs.Prelude.{◌↔◌, Bool, true, false, slice_index, unwrap_or, nat_eq, if◌then◌else◌}
use Rattle.clap.specs.Words.{Text}
use Rattle.program_words.specs.Usage.{WritesNumber, AreTexts, IsUsage, IsNoUsage, mode_text}
use Rattle.program_words.specs.declared.usage.Mode.{Mode}
use Rattle.program_words.specs.declared.usage.Mode.TheVariants.{Run, Demo, Serve, Bundle, Compact}
use Rattle.program_words.specs.declared.usage.Usage.{Usage}

-- the mode of a word that begins with this byte
abbrev mode_by : ℕ → Mode
mode_by n = if nat_eq n 114 then Run else if nat_eq n 100 then Demo else if nat_eq n 115 then Serve else if nat_eq n 98 then Bundle else Compact

by-text : (m : Mode) → mode_by (slice_index (mode_text m) 0) ≡ m
by-text Run = refl
by-text Demo = refl
by-text Serve = refl
by-text Bundle = refl
by-text Compact = refl

one-mode : (a b : Mode) → mode_text a ≡ mode_text b → a ≡ b
one-mode a b e = sym (by-text a) ∙ (ap (λ (t : Text). mode_by (slice_index t 0)) e ∙ by-text b)

one-number : (low high : ℕ) (o : Option Text) (m n : ℕ) → WritesNumber low high o m → WritesNumber low high o n → m ≡ n
one-number low high None m n a b = absurd a
one-number low high (Some text) m n a b = a.1 ∙ sym b.1

one-flag : (a b : Bool) (P : Type 0) → (a ≡ true) ↔ P → (b ≡ true) ↔ P → a ≡ b
one-flag true b P f g = sym (g.1 (f.0 refl))
one-flag false true P f g = f.1 (g.0 refl)
one-flag false false P f g = refl

abbrev whole : Mode → ℕ → ℕ → ℕ → Bool → Usage
whole mode cache size start wait = record { mode = mode; cache = cache; size = size; start = start; wait = wait }

one-text : (mode cache size start wait : Option Text) (a b : Usage) → AreTexts mode cache size start wait a → AreTexts mode cache size start wait b → a ≡ b
one-text mode cache size start wait a b f g =
    let modes = one-mode a.mode b.mode (ap (λ text. unwrap_or text []) (sym f.mode ∙ g.mode)) in
    let caches = one-number 1 65536 cache a.cache b.cache f.cache g.cache in
    let sizes = one-number 1 60000 size a.size b.size f.size g.size in
    let starts = one-number 0 18446744073709551615 start a.start b.start f.start g.start in
    let waits = one-flag a.wait b.wait _ f.wait g.wait in
    ap (λ x. whole x a.cache a.size a.start a.wait) modes ∙ (ap (λ x. whole b.mode x a.size a.start a.wait) caches
    ∙ (ap (λ x. whole b.mode b.cache x a.start a.wait) sizes ∙ (ap (λ x. whole b.mode b.cache b.size x a.wait) starts
    ∙ ap (whole b.mode b.cache b.size b.start) waits)))

pub one-usage : (words : List Text) (a b : Usage) → IsUsage words a → IsUsage words b → a ≡ b
one-usage words a b f g = one-text _ _ _ _ _ a b f.matches g.matches

pub no-usage : (words : List Text) (usage : Usage) → IsNoUsage words → IsUsage words usage → ⊥
no-usage words usage (inl faulty) is = faulty is.takes
no-usage words usage (inr other) is = other usage.mode is.matches.mode
