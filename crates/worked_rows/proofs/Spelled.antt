-- What two lines spell.
use Rattle.std.proofs.Common.{◌≡◌, ◌<◌, ℕ, List, [], ◌∷◌, ◌++◌, codes, decimal, drop, refl, sym, ◌∙◌, ap, subst, lit<, arith}
use Rattle.std.specs.Char.{digit_value}
use Rattle.std.specs.Fmt.{digits}
use Rattle.std.specs.Str.Parse.{AllDigits}
use Rattle.std.proofs.lemmas.Bool.{ne_eqb}
use Rattle.std.proofs.lemmas.Fmt.{decimal_is_IsNumeral, decimal_injective}
use Rattle.outside.specs.Parts.{HasNone}
use Rattle.set_expr.proofs.Marks.{part-same}
use Rattle.step_rules.specs.Verb.{Verb, Add, Flush, Reload, Discard, Query, Count, IdOf, Status, Levels, Clone, Pull, Strip, CountMirrors, Drop}
use Rattle.run_rules.specs.Grammar.{SpellsCommand, SpellsVerb}

none-digit : (xs : List ℕ) → AllDigits 10 xs → HasNone 32 xs
none-digit [] all = tt
none-digit (b ∷ xs) all =
    (ne_eqb b 32 (λ same. let P : ℕ → Type 0 = λ n. digit_value n < 10 in let wrong : digit_value 32 < 10 = subst P same all.0 in absurd (omega (arith, wrong))), none-digit xs all.1)

no-blank : (n : ℕ) → n < 16 → HasNone 32 (decimal n)
no-blank n small = none-digit (decimal n) (decimal_is_IsNumeral n (omega (arith, small))).0.1

zero-text : codes "0" ≡ decimal 0
unfolding digits
zero-text = refl

one-text : codes "1" ≡ decimal 1
unfolding digits
one-text = refl

-- the line of the first session with this text
line-zero : (text : List ℕ) → codes "0" ++ 32 ∷ text ≡ decimal 0 ++ 32 ∷ text
line-zero text = ap (λ number. number ++ 32 ∷ text) zero-text

-- what stands behind the number of the first session spells the verb
pub text-spells : (text : List ℕ) (s : ℕ) (verb : Verb) → SpellsCommand (codes "0" ++ 32 ∷ text) s verb → SpellsVerb text verb
text-spells text s verb h = subst (λ t. SpellsVerb t verb) (sym (part-same 32 (decimal 0) text (decimal s) h.0 (no-blank 0 (lit< tt)) (no-blank s h.1.0) (sym (line-zero text) ∙ h.3)).1) h.2

abbrev first : List ℕ → ℕ
first [] = 0
first (x ∷ xs) = x

abbrev second : List ℕ → ℕ
second [] = 0
second (x ∷ xs) = first xs

-- texts that differ in the first byte, or in the second
module _ {P : Type 0} {a b : List ℕ} where
  by-first : a ≡ b → (x y : ℕ) → first a ≡ x → first b ≡ y → (x ≡ y → ⊥) → P
  by-first e x y f g apart = absurd (apart (sym f ∙ ap first e ∙ g))

  by-second : a ≡ b → (x y : ℕ) → second a ≡ x → second b ≡ y → (x ≡ y → ⊥) → P
  by-second e x y f g apart = absurd (apart (sym f ∙ ap second e ∙ g))

abbrev pub drop_line : List ℕ
drop_line = codes "0 drop 1"

abbrev pub clone_line : List ℕ
clone_line = codes "0 clone"

abbrev pub pull_line : List ℕ
pull_line = codes "0 pull"

pub drop-spelled : SpellsCommand drop_line 0 (Drop 1)
drop-spelled = (codes "drop 1", (lit< tt, refl), (codes "1", (lit< tt, one-text), refl), line-zero (codes "drop 1"))

pub only-drop : (verb : Verb) → SpellsVerb (codes "drop 1") verb → verb ≡ Drop 1
only-drop (Add name parents) h = by-first h.1.2 100 97 refl refl (λ e. omega (arith, e))
only-drop (Flush heads) h = by-first h.2 100 102 refl refl (λ e. omega (arith, e))
only-drop Reload h = by-first h 100 114 refl refl (λ e. omega (arith, e))
only-drop Discard h = by-second h 114 105 refl refl (λ e. omega (arith, e))
only-drop (Query e) h = by-first h.2 100 113 refl refl (λ e. omega (arith, e))
only-drop (Count e) h = by-first h.2 100 99 refl refl (λ e. omega (arith, e))
only-drop (IdOf name) h = by-first h.2 100 105 refl refl (λ e. omega (arith, e))
only-drop Status h = by-first h 100 115 refl refl (λ e. omega (arith, e))
only-drop Levels h = by-first h 100 108 refl refl (λ e. omega (arith, e))
only-drop Clone h = by-first h 100 99 refl refl (λ e. omega (arith, e))
only-drop Pull h = by-first h 100 112 refl refl (λ e. omega (arith, e))
only-drop (Strip names) h = by-first h.1.2 100 115 refl refl (λ e. omega (arith, e))
only-drop CountMirrors h = by-first h 100 109 refl refl (λ e. omega (arith, e))
only-drop (Drop k) h = ap Drop (decimal_injective k 1 h.1.0 (lit< tt) (sym h.1.1 ∙ sym (ap (drop 5) h.2) ∙ one-text))

pub only-clone : (verb : Verb) → SpellsVerb (codes "clone") verb → verb ≡ Clone
only-clone (Add name parents) h = by-first h.1.2 99 97 refl refl (λ e. omega (arith, e))
only-clone (Flush heads) h = by-first h.2 99 102 refl refl (λ e. omega (arith, e))
only-clone Reload h = by-first h 99 114 refl refl (λ e. omega (arith, e))
only-clone Discard h = by-first h 99 100 refl refl (λ e. omega (arith, e))
only-clone (Query e) h = by-first h.2 99 113 refl refl (λ e. omega (arith, e))
only-clone (Count e) h = by-second h.2 108 111 refl refl (λ e. omega (arith, e))
only-clone (IdOf name) h = by-first h.2 99 105 refl refl (λ e. omega (arith, e))
only-clone Status h = by-first h 99 115 refl refl (λ e. omega (arith, e))
only-clone Levels h = by-first h 99 108 refl refl (λ e. omega (arith, e))
only-clone Clone h = refl
only-clone Pull h = by-first h 99 112 refl refl (λ e. omega (arith, e))
only-clone (Strip names) h = by-first h.1.2 99 115 refl refl (λ e. omega (arith, e))
only-clone CountMirrors h = by-first h 99 109 refl refl (λ e. omega (arith, e))
only-clone (Drop k) h = by-first h.2 99 100 refl refl (λ e. omega (arith, e))

pub clone-spelled : SpellsCommand clone_line 0 Clone
clone-spelled = (codes "clone", (lit< tt, refl), refl, line-zero (codes "clone"))

pub drop-no-pull : (s : ℕ) → SpellsCommand drop_line s Pull → ⊥
drop-no-pull s h = by-first (text-spells (codes "drop 1") s Pull h) 100 112 refl refl (λ e. omega (arith, e))

pub clone-no-pull : (s : ℕ) → SpellsCommand clone_line s Pull → ⊥
clone-no-pull s h = by-first (text-spells (codes "clone") s Pull h) 99 112 refl refl (λ e. omega (arith, e))
