-- Lists without their first items.
use Rattle.std.proofs.Common.{◌≡◌, ◌≤◌, ◌<◌, ℕ, zero, suc, List, [], ◌∷◌, ◌++◌, length, drop, refl, ap, ◌∙◌, arith}

abbrev tail_of : {X : Type 0} → List X → List X
tail_of [] = []
tail_of (x ∷ xs) = xs

some-empty : {X : Type 0} (x : X) (xs : List X) → [] ≡ x ∷ xs → ⊥
some-empty x xs e = let l : 0 ≡ suc (length xs) = ap length e in omega (arith, l)

pub drop-next : {X : Type 0} (n : ℕ) (xs : List X) (x : X) (rest : List X) → drop n xs ≡ x ∷ rest → drop (suc n) xs ≡ rest
drop-next zero [] x rest e = absurd (some-empty x rest e)
drop-next zero (y ∷ xs) x rest e = ap tail_of e
drop-next (suc n) [] x rest e = absurd (some-empty x rest e)
drop-next (suc n) (y ∷ xs) x rest e = drop-next n xs x rest e

pub drop-some : {X : Type 0} (n : ℕ) (xs : List X) (x : X) (rest : List X) → drop n xs ≡ x ∷ rest → n < length xs
drop-some zero [] x rest e = absurd (some-empty x rest e)
drop-some zero (y ∷ xs) x rest e = omega arith
drop-some (suc n) [] x rest e = absurd (some-empty x rest e)
drop-some (suc n) (y ∷ xs) x rest e = let r = drop-some n xs x rest e in omega (arith, r)

pub drop-behind : {X : Type 0} (n : ℕ) (xs : List X) (x : X) → n ≤ length xs → drop n (xs ++ x ∷ []) ≡ drop n xs ++ x ∷ []
drop-behind zero [] x le = refl
drop-behind zero (y ∷ xs) x le = refl
drop-behind (suc n) [] x le = absurd (omega (arith, le))
drop-behind (suc n) (y ∷ xs) x le = drop-behind n xs x (omega (arith, le))

-- where all were dropped
pub drop-last : {X : Type 0} (n : ℕ) (xs : List X) (x : X) → n ≤ length xs → drop n xs ≡ [] → drop (suc n) (xs ++ x ∷ []) ≡ []
drop-last n xs x le e = drop-next n (xs ++ x ∷ []) x [] (drop-behind n xs x le ∙ ap (λ l. l ++ x ∷ []) e)
