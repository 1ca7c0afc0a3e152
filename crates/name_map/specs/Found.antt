-- What a search among the parts finds.
use Rattle.std.specs.Prelude.{◌≡◌, ◌<◌, ◌≤◌, ℕ, List, [], ◌∷◌, ◌++◌, ⊤, length, Option, Some, None}
use Rattle.id_groups.specs.Lists.{IsIn}
use Rattle.id_groups.specs.Name.{Name}
use Rattle.name_map.specs.Part.{PlainPart}
use Rattle.name_map.specs.Added.{Placed, known_of, named_of}
use Rattle.name_map.specs.Map.{part_of, IsNameOf, count_known}

-- each payload's master ids begin above the number
abbrev pub BeginAbove : ℕ → List Placed → Type 0
BeginAbove number [] = ⊤
BeginAbove number (a ∷ more) = (number < a.payload.before) × BeginAbove number more

-- the part is that of the last payload whose master ids begin at the number or below it
pub record IsPartFor (added : List Placed) (number : ℕ) (part : PlainPart) : Type 0 where
  pub front : List Placed
  pub here : Placed
  pub behind : List Placed
  pub whole : added ≡ front ++ here ∷ behind
  pub is : part ≡ part_of (length (known_of front)) here
  pub begins : here.payload.before ≤ number
  pub above : BeginAbove number behind

-- the place of a name that the id has; none exactly where the id has none
abbrev pub IsPlaceOf : List Placed → ℕ → Option ℕ → Type 0
IsPlaceOf added id None = IsNameOf (known_of added) id None
IsPlaceOf added id (Some place) = (name : Name) × IsIn (record { id = id; name = name }) (known_of added) × IsIn (record { place = place; name = name }) (named_of added)

-- so many known ids are below the bound
abbrev pub CountsBelow : List Placed → ℕ → ℕ → Type 0
CountsBelow added below n = n ≡ count_known below (known_of added)
