-- Named places, and names that stand in bytes.
use Rattle.std.specs.Prelude.{◌≡◌, ◌≤◌, ◌+◌, ◌-◌, ℕ, zero, suc, List, [], ◌∷◌, map, length, take, drop}
use Rattle.std.specs.List.{AllByRecursion}
use Rattle.id_groups.specs.Name.{Name}

-- a name and the place in the log's bytes where it stands
pub record NamedPlace : Type 0 where
  pub place : ℕ
  pub name : Name

-- the names alone
abbrev pub names_in : List NamedPlace → List Name
names_in named = map (λ n. n.name) named

-- the places alone
abbrev pub places_in : List NamedPlace → List ℕ
places_in named = map (λ n. n.place) named

-- the name of 20 bytes stands in the bytes at its place
pub record NameStandsAt (bytes : List ℕ) (named : NamedPlace) : Type 0 where
  pub whole : length named.name ≡ 20
  pub stands : take 20 (drop named.place bytes) ≡ named.name

-- each name stands in the bytes at its place
abbrev pub NamesStand : List ℕ → List NamedPlace → Type 0
NamesStand bytes named = AllByRecursion (NameStandsAt bytes) named

-- the same in bytes that stand, or will stand, at `at`
pub record StandsFrom (at : ℕ) (bytes : List ℕ) (named : NamedPlace) : Type 0 where
  pub behind : at ≤ named.place
  pub whole : length named.name ≡ 20
  pub stands : take 20 (drop (named.place - at) bytes) ≡ named.name

-- each name stands in bytes that stand, or will stand, at `at`
abbrev pub StandFrom : ℕ → List ℕ → List NamedPlace → Type 0
StandFrom at bytes named = AllByRecursion (StandsFrom at bytes) named

-- so many names of 20 bytes that stand one behind another in bytes, which stand, or will stand, at a place
abbrev pub named_in : ℕ → ℕ → List ℕ → List NamedPlace
named_in zero place bytes = []
named_in (suc n) place bytes = record { place = place; name = take 20 bytes } ∷ named_in n (place + 20) (drop 20 bytes)
