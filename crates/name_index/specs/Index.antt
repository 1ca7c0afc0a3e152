-- What an index of names holds, and what a look-up finds.
use Rattle.std.specs.Prelude.{ℕ, List, Option, Some, None}
use Rattle.std.specs.List.Sorted.{IsPermutation}
use Rattle.id_groups.specs.Lists.{IsIn, AreDistinct}
use Rattle.id_groups.specs.Name.{Name}
pub use Rattle.name_index.specs.Named.{NamedPlace, names_in, places_in, named_in, NameStandsAt, NamesStand, StandsFrom, StandFrom}
use Rattle.name_index.specs.Runs.{AreRuns, joined}
use Rattle.name_index.specs.declared.entry.Entry.{Entry}

-- The runs hold just these named places, whatever their order, and no two of their names are the same.
pub record IsIndexOf (runs : List (List Entry)) (named : List NamedPlace) : Type 0 where
  pub held : List (List NamedPlace)
  pub in_order : AreRuns runs held
  pub same : IsPermutation named (joined held)
  pub distinct : AreDistinct (names_in named)

-- the place of the name, and none exactly where no named place has it
abbrev pub Finds : List NamedPlace → Name → Option ℕ → Type 0
Finds named name None = IsIn name (names_in named) → ⊥
Finds named name (Some place) = IsIn (record { place = place; name = name }) named
