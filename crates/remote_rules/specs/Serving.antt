-- Remotes that hold the commits that a log doesn't name.
use Rattle.std.specs.Prelude.{◌≡◌, ◌≤◌, ◌⊎◌, ℕ, true, List, ◌++◌, Some, length, take}
use Rattle.std.specs.List.{AllByRecursion}
use Rattle.id_groups.specs.Lists.{IsIn}
use Rattle.id_groups.specs.Name.{Name}
use Rattle.commit_graph.specs.World.{Row, World}
use Rattle.remote_rules.specs.Mirror.{Mirror}
use Rattle.remote_rules.specs.Honest.{IsHonest}

-- it is honest, and each master row of the world below the cloned count is a row of its own master, with the same parents
abbrev pub IsServing : ℕ → World Name → Mirror → Type 0
IsServing cloned w m =
    (rows : List (Row Name)) × (m.master ≡ Some rows) × IsHonest m.cloned rows × ((row : Row Name) → IsIn row (take cloned w.master) → IsIn row rows)

-- its master begins with the world's rows below the cloned count, in their order
abbrev pub BeginsWith : ℕ → World Name → Mirror → Type 0
BeginsWith cloned w m =
    (rows : List (Row Name)) × (m.master ≡ Some rows) × IsHonest m.cloned rows × (more : List (Row Name)) × (rows ≡ take cloned w.master ++ more)

-- settled mirrors with the same rows of master, in whatever order
abbrev pub AreAlike : List Mirror → Type 0
AreAlike mirrors =
    AllByRecursion (λ (m : Mirror). m.settled ≡ true) mirrors
    × ((m n : Mirror) (q r : List (Row Name)) → IsIn m mirrors → IsIn n mirrors → m.master ≡ Some q → n.master ≡ Some r
    → (row : Row Name) → IsIn row q → IsIn row r)

-- What is asked of the mirrors of a run over a world, of which so many commits were cloned: each serves it, and over an empty
-- master they are at most one, or alike.
pub record AllServe (cloned : ℕ) (w : World Name) (mirrors : List Mirror) : Type 0 where
  pub each : AllByRecursion (IsServing cloned w) mirrors
  pub first_clone : length w.master ≡ 0 → (length mirrors ≤ 1) ⊎ AreAlike mirrors

-- mirrors that tell that they never fail again
abbrev pub NeverFail : List Mirror → Type 0
NeverFail mirrors = AllByRecursion (λ (m : Mirror). m.to_come ≡ Some 0) mirrors
