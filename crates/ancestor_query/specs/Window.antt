-- A set of ids that lie close below an end, in one word: bit j says that the id j + 1 below the end is in it.
use Rattle.std.specs.Prelude.{◌≡◌, ℕ, zero, suc, ◌<◌, ◌≤◌, ◌⊎◌, ◌↔◌, ◌-◌, List, [], ◌∷◌, Option, Some, None, Bool, true, false}
use Rattle.std.specs.Int.{bit_at}
use Rattle.id_groups.specs.Lists.{IsIn}

-- the id, where the digit is not 0
abbrev pub put_at : ℕ → ℕ → List ℕ → List ℕ
put_at zero id ids = ids
put_at (suc digit) id ids = id ∷ ids

-- the ids of the lowest bits of a word
abbrev pub ids_of_bits : ℕ → ℕ → ℕ → List ℕ
ids_of_bits zero end bits = []
ids_of_bits (suc j) end bits = put_at (bit_at bits j) (end - suc j) (ids_of_bits j end bits)

unfoldable pub window_ids : ℕ → ℕ → List ℕ
window_ids end bits = ids_of_bits 64 end bits

-- each bit stands for a number
abbrev pub AreNumbers : ℕ → ℕ → Type 0
AreNumbers end bits = (j : ℕ) → bit_at bits j ≡ 1 → j < end

-- the id was taken, or nothing changed
abbrev pub Takes : List ℕ → List ℕ → ℕ → Bool → Type 0
Takes before after id true = (x : ℕ) → IsIn x after ↔ (IsIn x before ⊎ (x ≡ id))
Takes before after id false = after ≡ before

-- the greatest of some ids, if there is one
abbrev pub IsGreatestOf : List ℕ → Option ℕ → Type 0
IsGreatestOf ids None = (x : ℕ) → IsIn x ids → ⊥
IsGreatestOf ids (Some top) = IsIn top ids × ((x : ℕ) → IsIn x ids → x ≤ top)
