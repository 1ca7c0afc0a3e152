-- Brackets and commas cut a text into words: none stands in a name, a number or a word.
use Rattle.std.proofs.Common.{◌≡◌, ◌==◌, ◌<◌, ◌^◌, ℕ, Bool, true, false, ◌⊎◌, inl, inr, List, [], ◌∷◌, ◌++◌, get_or, refl, sym, ap, ◌∙◌, subst, arith}
use Rattle.std.specs.Prelude.{◌&&◌, not, decimal, codes}
use Rattle.std.specs.List.{AllPass}
use Rattle.std.specs.Char.{digit_value}
use Rattle.std.specs.Str.Parse.{AllDigits}
use Rattle.std.proofs.lemmas.Bool.{ne_eqb, eqb-false, true≢false}
use Rattle.std.proofs.lemmas.Fmt.{decimal_is_IsNumeral}
use Rattle.hex.specs.Hex.{is_hex_digit}
use Rattle.hex.proofs.HexLemmas.{decode_of-ok}
use Rattle.outside.specs.Parts.{HasNone}
use Rattle.outside.proofs.PartsLemmas.{none-each}
use Rattle.id_groups.specs.Name.{Name, SpellsName}
use Rattle.id_groups.proofs.Listing.{and_true}
use Rattle.set_expr.specs.declared.words.Word.{Word}
use Rattle.set_expr.specs.declared.words.Word.TheVariants as words
use Rattle.set_expr.specs.declared.words.Call.{Call}
use Rattle.set_expr.specs.declared.words.Call.TheVariants as calls
use Rattle.set_expr.specs.declared.words.PairCall.{PairCall}
use Rattle.set_expr.specs.declared.words.PairCall.TheVariants as pairs
use Rattle.set_expr.specs.Spelling.{word_text, call_text, pair_text}
use Rattle.set_expr.specs.Fronts.{Unmarked, Ends}

-- the test of a text that is given
abbrev pub is_clear : ℕ → List ℕ → Bool
is_clear mark [] = true
is_clear mark (b ∷ bs) = not (b == mark) && is_clear mark bs

false-of : (b : Bool) → not b ≡ true → b ≡ false
false-of true h = sym h
false-of false h = refl

clear-none : (mark : ℕ) (xs : List ℕ) → is_clear mark xs ≡ true → HasNone mark xs
clear-none mark [] h = tt
clear-none mark (b ∷ bs) h = let both = and_true (not (b == mark)) (is_clear mark bs) h in (false-of (b == mark) both.0, clear-none mark bs both.1)

unmarked-text : (xs : List ℕ) → is_clear 40 xs ≡ true → is_clear 41 xs ≡ true → is_clear 44 xs ≡ true → Unmarked xs
unmarked-text xs a b c = record { opening = clear-none 40 xs a; closing = clear-none 41 xs b; comma = clear-none 44 xs c }

pub unmarked-word : (word : Word) → Unmarked (word_text word)
unmarked-word words.All = unmarked-text (codes "all") refl refl refl
unmarked-word words.Master = unmarked-text (codes "master") refl refl refl
unmarked-word words.Others = unmarked-text (codes "others") refl refl refl

pub unmarked-call : (call : Call) → Unmarked (call_text call)
unmarked-call calls.Parents = unmarked-text (codes "parents") refl refl refl
unmarked-call calls.Children = unmarked-text (codes "children") refl refl refl
unmarked-call calls.Ancestors = unmarked-text (codes "ancestors") refl refl refl
unmarked-call calls.Descendants = unmarked-text (codes "descendants") refl refl refl
unmarked-call calls.Heads = unmarked-text (codes "heads") refl refl refl
unmarked-call calls.Roots = unmarked-text (codes "roots") refl refl refl
unmarked-call calls.Tips = unmarked-text (codes "tips") refl refl refl
unmarked-call calls.Merges = unmarked-text (codes "merges") refl refl refl
unmarked-call calls.Common = unmarked-text (codes "common") refl refl refl
unmarked-call calls.Line = unmarked-text (codes "line") refl refl refl
unmarked-call calls.Gca = unmarked-text (codes "gca") refl refl refl

pub unmarked-pair : (call : PairCall) → Unmarked (pair_text call)
unmarked-pair pairs.Range = unmarked-text (codes "range") refl refl refl
unmarked-pair pairs.Only = unmarked-text (codes "only") refl refl refl
unmarked-pair pairs.Union = unmarked-text (codes "union") refl refl refl
unmarked-pair pairs.Inter = unmarked-text (codes "inter") refl refl refl
unmarked-pair pairs.Minus = unmarked-text (codes "minus") refl refl refl

pub unmarked-up : Unmarked (codes "up")
unmarked-up = unmarked-text (codes "up") refl refl refl

pub unmarked-top : Unmarked (codes "top")
unmarked-top = unmarked-text (codes "top") refl refl refl

-- a byte that passes a test isn't one that doesn't
apart : (test : ℕ → Bool) (b mark : ℕ) → test b ≡ true → test mark ≡ false → (b == mark) ≡ false
apart test b mark passes fails = ne_eqb b mark (λ same. let wrong : true ≡ false = sym passes ∙ ap test same ∙ fails in true≢false wrong)

none-pass : (test : ℕ → Bool) (mark : ℕ) (xs : List ℕ) → test mark ≡ false → AllPass test xs → HasNone mark xs
none-pass test mark xs fails all = none-each mark xs (λ k d below. apart test (get_or xs k d) mark (all k d below) fails)

-- a name has 40 hex digits
pub unmarked-name : (text : List ℕ) (name : Name) → SpellsName text name → Unmarked text
unmarked-name text name h = let digits = (decode_of-ok text name h.1).1 in record {
  opening = none-pass is_hex_digit 40 text refl digits;
  closing = none-pass is_hex_digit 41 text refl digits;
  comma = none-pass is_hex_digit 44 text refl digits;
}

none-digit : (mark : ℕ) (xs : List ℕ) → (digit_value mark < 10 → ⊥) → AllDigits 10 xs → HasNone mark xs
none-digit mark [] fails all = tt
none-digit mark (b ∷ xs) fails all =
    (ne_eqb b mark (λ same. fails (let P : ℕ → Type 0 = λ n. digit_value n < 10 in subst P same all.0)), none-digit mark xs fails all.1)

pub unmarked-number : (n : ℕ) → n < 2 ^ 64 → Unmarked (decimal n)
unmarked-number n h = let digits = (decimal_is_IsNumeral n h).0.1 in record {
  opening = none-digit 40 (decimal n) (λ h. omega (arith, h)) digits;
  closing = none-digit 41 (decimal n) (λ h. omega (arith, h)) digits;
  comma = none-digit 44 (decimal n) (λ h. omega (arith, h)) digits;
}

unmarked-tail : (b : ℕ) (xs : List ℕ) → Unmarked (b ∷ xs) → Unmarked xs
unmarked-tail b xs h = record { opening = h.opening.1; closing = h.closing.1; comma = h.comma.1 }

ends-marked : (b : ℕ) (xs rest : List ℕ) → Unmarked (b ∷ xs) → Ends (b ∷ rest) → ⊥
ends-marked b xs rest h (inl e) = eqb-false b 41 h.closing.0 e
ends-marked b xs rest h (inr e) = eqb-false b 44 h.comma.0 e

-- what stands in front of a first mark, and what behind it
pub part-same : (mark : ℕ) (u x v y : List ℕ) → HasNone mark u → HasNone mark v → u ++ mark ∷ x ≡ v ++ mark ∷ y → (u ≡ v) × (x ≡ y)
part-same mark [] x [] y h k e = (refl, cc)
part-same mark [] x (c ∷ v) y h k e = absurd (eqb-false c mark k.0 (cc))
part-same mark (b ∷ u) x [] y h k e = absurd (eqb-false b mark h.0 (cc))
part-same mark (b ∷ u) x (c ∷ v) y h k e =
    let head : b ≡ c = cc in
    let tail : u ++ mark ∷ x ≡ v ++ mark ∷ y = cc in
    let rest = part-same mark u x v y h.1 k.1 tail in
    (cc, rest.1)

-- two words, each with an end behind it
pub word-same : (u x v y : List ℕ) → Unmarked u → Unmarked v → Ends x → Ends y → u ++ x ≡ v ++ y → (u ≡ v) × (x ≡ y)
word-same [] x [] y h k i j e = (refl, e)
word-same [] [] (c ∷ v) y h k i j e = cc
word-same [] (b ∷ x) (c ∷ v) y h k i j e = let same : b ≡ c = cc in absurd (ends-marked c v x k (let P : ℕ → Type 0 = λ n. (n ≡ 41) ⊎ (n ≡ 44) in subst P same i))
word-same (b ∷ u) x [] [] h k i j e = cc
word-same (b ∷ u) x [] (c ∷ y) h k i j e = let same : c ≡ b = cc in absurd (ends-marked b u y h (let P : ℕ → Type 0 = λ n. (n ≡ 41) ⊎ (n ≡ 44) in subst P same j))
word-same (b ∷ u) x (c ∷ v) y h k i j e =
    let head : b ≡ c = cc in
    let tail : u ++ x ≡ v ++ y = cc in
    let rest = word-same u x v y (unmarked-tail b u h) (unmarked-tail c v k) i j tail in
    (cc, rest.1)

ends-open : (c : ℕ) (rest : List ℕ) → c ≡ 40 → Ends (c ∷ rest) → ⊥
ends-open c rest e (inl f) = eqb-false 41 40 refl (sym f ∙ e)
ends-open c rest e (inr f) = eqb-false 44 40 refl (sym f ∙ e)

-- a word with an end behind it is none with a bracket behind it
pub word-apart : (u x v z : List ℕ) → Unmarked u → Ends x → Unmarked v → u ++ x ≡ v ++ 40 ∷ z → ⊥
word-apart [] [] [] z h i k e = cc
word-apart [] (b ∷ x) [] z h i k e = let same : b ≡ 40 = cc in ends-open b x same i
word-apart [] [] (c ∷ v) z h i k e = cc
word-apart [] (b ∷ x) (c ∷ v) z h i k e = let same : b ≡ c = cc in ends-marked c v x k (let P : ℕ → Type 0 = λ n. (n ≡ 41) ⊎ (n ≡ 44) in subst P same i)
word-apart (b ∷ u) x [] z h i k e = let same : b ≡ 40 = cc in eqb-false b 40 h.opening.0 same
word-apart (b ∷ u) x (c ∷ v) z h i k e =
    let tail : u ++ x ≡ v ++ 40 ∷ z = cc in
    word-apart u x v z (unmarked-tail b u h) i (unmarked-tail c v k) tail
