-- The mirrors that words make, one after another.
use Rattle.std.proofs.Common.{◌≡◌, ◌≤◌, ◌+◌, ℕ, zero, suc, Bool, List, [], ◌∷◌, ◌++◌, length, map, take, Option, Some, None, refl, ap, ◌∙◌, arith}
use Rattle.std.specs.Prelude.{slice_get}
use Rattle.std.proofs.lemmas.List.{map-append}
use Rattle.remote_serve.proofs.Sizes.{take-next}
use Rattle.segdag.specs.Remotes.{NamesSo}
use Rattle.segdag.specs.declared.remotes.Named.{Named}
use Rattle.segdag.specs.declared.mirror.Mirror.{Mirror}
use Rattle.segdag.specs.Mirrors.{IsMadeOf, with_made, AreMadeOf}

with-append : (made : Option Mirror) (xs ys : List Mirror) → with_made made xs ++ ys ≡ with_made made (xs ++ ys)
with-append None xs ys = refl
with-append (Some m) xs ys = refl

-- one word more
pub made-more : (is_run : Bool) (words : List (List ℕ)) (mirrors : List Mirror) (word : List ℕ) (named : Named) → NamesSo is_run word named → (made : Option Mirror) → IsMadeOf named made
    → AreMadeOf is_run words mirrors → AreMadeOf is_run (words ++ word ∷ []) (mirrors ++ with_made made [])
made-more is_run [] mirrors word named so made m a = (named, so, made, m, [], ap (λ l. l ++ with_made made []) a, refl)
made-more is_run (w ∷ words) mirrors word named so made m a =
    (a.0, a.1, a.2, a.3, a.4 ++ with_made made [], ap (λ l. l ++ with_made made []) a.5 ∙ with-append a.2 a.4 (with_made made []), made-more is_run words a.4 word named so made m a.6)

-- what one item more maps to
pub mapped : {X Y : Type 0} (f : X → Y) (xs : List X) (i : ℕ) (x : X) → slice_get xs i ≡ Some x → map f (take (i + 1) xs) ≡ map f (take i xs) ++ f x ∷ []
mapped f xs i x e = ap (map f) (take-next xs i x e) ∙ map-append f (take i xs) (x ∷ [])

-- as many as there are
pub whole : {X : Type 0} (i : ℕ) (xs : List X) → length xs ≤ i → take i xs ≡ xs
whole zero [] le = refl
whole zero (x ∷ xs) le = absurd (omega (arith, le))
whole (suc i) [] le = refl
whole (suc i) (x ∷ xs) le = ap (λ l. x ∷ l) (whole i xs (omega (arith, le)))
