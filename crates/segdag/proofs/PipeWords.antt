-- Words that name pipes.
use Rattle.std.proofs.Common.{◌≡◌, ◌==◌, ◌<◌, ◌∷◌, ◌++◌, [], ℕ, List, length, take, drop, get_or, Option, Some, None, refl, sym, ap, subst, ◌∙◌, arith, length-append, length-take, Bor}
use Rattle.std.specs.Prelude.{MatchOption, IfSome, IfNone, codes}
use Rattle.std.specs.List.{position_or_len, before_first, after_first}
use Rattle.std.proofs.lemmas.Bool.{true≢false, eqb-true}
use Rattle.std.proofs.lemmas.List.{get_or-take}
use Rattle.std.proofs.lemmas.List.Sums.{split_at_first, fails_before_first, passes_at_first}
use Rattle.outside.specs.Parts.{HasNone}
use Rattle.outside.proofs.PartsLemmas.{none-each}
use Rattle.segdag.specs.Remotes.{IsPipeWord}

-- what stands before the first colon has none, and behind it comes the rest
pub split-so : (s to from : List ℕ) → position_or_len (λ b. b == 58) s < length s → to ≡ before_first (λ b. b == 58) s → from ≡ after_first (λ b. b == 58) s
    → (s ≡ to ++ 58 ∷ from) × HasNone 58 to
split-so s to from lt e f =
    let at = position_or_len (λ b. b == 58) s in
    let mark : get_or s at 0 ≡ 58 = eqb-true (get_or s at 0) 58 (passes_at_first (λ b. b == 58) s 0 lt) in
    let whole = split_at_first (λ b. b == 58) s 0 lt in (
      whole ∙ ap (λ (n : ℕ). before_first (λ b. b == 58) s ++ (n ∷ after_first (λ b. b == 58) s)) mark ∙ ap (λ (l : List ℕ). l ++ 58 ∷ after_first (λ b. b == 58) s) (sym e) ∙ ap (λ (l : List ℕ). to ++ 58 ∷ l) (sym f),
      subst (HasNone 58) (sym e) (none-each 58 (take at s) (λ k d below.
          let less : k < at = omega (arith, below, length-take {A = ℕ} at s) in
          ap (λ (n : ℕ). n == 58) (get_or-take at s k d less) ∙ fails_before_first (λ b. b == 58) s k d less)),
    )

at-seam : (to from : List ℕ) → get_or (to ++ 58 ∷ from) (length to) 0 ≡ 58
at-seam [] from = refl
at-seam (b ∷ to) from = at-seam to from

-- where no colon is found there is none
pub no-split : (s to from : List ℕ) → position_or_len (λ b. b == 58) s ≡ length s → s ≡ to ++ 58 ∷ from → ⊥
no-split s to from none e =
    let size = ap (length {A = ℕ}) e ∙ length-append to (58 ∷ from) in
    let less : length to < position_or_len (λ b. b == 58) s = omega (arith, none, size) in
    let there : get_or s (length to) 0 ≡ 58 = ap (λ (l : List ℕ). get_or l (length to) 0) e ∙ at-seam to from in
    true≢false (sym (ap (λ (n : ℕ). n == 58) there) ∙ fails_before_first (λ b. b == 58) s (length to) 0 less)

pub colon-some : (s : List ℕ) (r : Option (Bor (List ℕ) × Bor (List ℕ)))
    → MatchOption r (position_or_len (λ b. b == 58) s ≡ length s) (λ x. (position_or_len (λ b. b == 58) s < length s) × (x.0.now ≡ before_first (λ b. b == 58) s) × (x.1.now ≡ after_first (λ b. b == 58) s))
    → IfSome r (λ parts. (s ≡ parts.0.now ++ 58 ∷ parts.1.now) × HasNone 58 parts.0.now)
colon-some s None h = tt
colon-some s (Some x) h = split-so s x.0.now x.1.now h.0 h.1 h.2

pub colon-none : (s : List ℕ) (r : Option (Bor (List ℕ) × Bor (List ℕ)))
    → MatchOption r (position_or_len (λ b. b == 58) s ≡ length s) (λ x. (position_or_len (λ b. b == 58) s < length s) × (x.0.now ≡ before_first (λ b. b == 58) s) × (x.1.now ≡ after_first (λ b. b == 58) s))
    → IfNone r ((to from : List ℕ) → s ≡ to ++ 58 ∷ from → ⊥)
colon-none s None h = λ to from e. no-split s to from h e
colon-none s (Some x) h = tt

pub pipe-some : (word text : List ℕ) (r : Option (Bor (List ℕ) × Bor (List ℕ))) → word ≡ codes "pipe:" ++ text
    → IfSome r (λ parts. (text ≡ parts.0.now ++ 58 ∷ parts.1.now) × HasNone 58 parts.0.now) → IfSome r (λ paths. IsPipeWord paths.0.now paths.1.now word)
pipe-some word text None e h = tt
pipe-some word text (Some x) e h = (e ∙ ap (λ (l : List ℕ). codes "pipe:" ++ l) h.0, h.1)

pub pipe-none : (word text : List ℕ) (r : Option (Bor (List ℕ) × Bor (List ℕ))) → word ≡ codes "pipe:" ++ text
    → IfNone r ((to from : List ℕ) → text ≡ to ++ 58 ∷ from → ⊥) → IfNone r ((to from : List ℕ) → IsPipeWord to from word → ⊥)
pipe-none word text None e h = λ to from is. h to from (ap (λ (l : List ℕ). drop 5 l) (sym e ∙ is.0))
pipe-none word text (Some x) e h = tt
