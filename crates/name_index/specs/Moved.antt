-- Names that stood elsewhere before: which of them is which, and what becomes of their entries.
use Rattle.std.specs.Prelude.{◌≡◌, ◌≤◌, ◌+◌, ◌*◌, ◌⊎◌, ◌++◌, ⊤, ℕ, List, [], ◌∷◌, Option, Some, None, IfSome, length, take, drop}
use Rattle.name_index.specs.Named.{NamedPlace}

-- where a number is told, the new name of that number is the old name of the number k
abbrev pub IsMove : List ℕ → List ℕ → ℕ → Option ℕ → Type 0
IsMove old new k None = ⊤
IsMove old new k (Some m) = (20 * m + 20 ≤ length new) × (take 20 (drop (20 * m) new) ≡ take 20 (drop (20 * k) old))

-- so it is for each of the old names from the number k on
abbrev pub AreMoves : List ℕ → List ℕ → ℕ → List (Option ℕ) → Type 0
AreMoves old new k [] = ⊤
AreMoves old new k (move ∷ moves) = IsMove old new k move × AreMoves old new (k + 1) moves

-- where numbers are told, they go up by one from `first` on
abbrev pub AreNumbers : ℕ → List (Option ℕ) → Type 0
AreNumbers first [] = ⊤
AreNumbers first (told ∷ numbers) = IfSome told (λ m. m ≡ first) × AreNumbers (first + 1) numbers

-- so many of them were put behind the old ones
pub record AppendsNumbers (first count : ℕ) (old new : List (Option ℕ)) : Type 0 where
  pub numbers : List (Option ℕ)
  pub count_is : length numbers ≡ count
  pub appended : new ≡ old ++ numbers
  pub are : AreNumbers first numbers

-- the second names are some of the first, in their order, at other places
abbrev pub AreThinned : List NamedPlace → List NamedPlace → Type 0
AreThinned old [] = ⊤
AreThinned [] (n ∷ new) = ⊥
AreThinned (o ∷ old) (n ∷ new) = ((o.name ≡ n.name) × AreThinned old new) ⊎ AreThinned old (n ∷ new)

-- it is one of the names that stand one behind another in bytes, which stand, or will stand, at `at`
pub record StandsAmong (at : ℕ) (bytes : List ℕ) (n : NamedPlace) : Type 0 where
  pub number : ℕ
  pub whole : 20 * number + 20 ≤ length bytes
  pub place : n.place ≡ at + 20 * number
  pub name : n.name ≡ take 20 (drop (20 * number) bytes)
