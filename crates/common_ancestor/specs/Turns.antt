-- One turn of a visit: the ids at which it cuts a segment, and where the segment's parents go.
use Rattle.std.specs.Prelude.{◌≡◌, ℕ, suc, ◌<◌, ◌≤◌, ◌⊎◌, ◌↔◌, List, Option, Some, None, max}
use Rattle.id_groups.specs.Lists.{IsIn}

-- the first number from low on that lies above the id, where there is one
abbrev pub first_above : ℕ → Option ℕ → ℕ
first_above low None = low
first_above low (Some y) = max low (suc y)

-- the greater of an id and another, where there is one
abbrev pub greater_with : ℕ → Option ℕ → ℕ
greater_with x None = x
greater_with x (Some y) = max x y

-- what a list has once ids were put on it
pub record Puts (before ids after : List ℕ) : Type 0 where
  pub put : (w : ℕ) → IsIn w after ↔ (IsIn w before ⊎ IsIn w ids)

-- the ids went to their list where start lies above low, else to mine
abbrev pub PutsEither : ℕ → ℕ → List ℕ → List ℕ → List ℕ → List ℕ → List ℕ → Type 0
PutsEither low start ids mine theirs more_mine more_theirs =
    ((low < start) × (more_mine ≡ mine) × Puts theirs ids more_theirs) ⊎ ((start ≤ low) × Puts mine ids more_mine × (more_theirs ≡ theirs))
