-- A fork of six commits.
use Rattle.std.specs.Prelude.{ℕ, [], ◌∷◌, ◌++◌, List, replicate}
use Rattle.id_groups.specs.Name.{Name}

-- the name of 19 zero bytes and this one
abbrev pub name_to : ℕ → Name
name_to last = replicate 19 0 ++ last ∷ []

abbrev pub fork_names : List Name
fork_names = name_to 1 ∷ name_to 2 ∷ name_to 3 ∷ name_to 4 ∷ name_to 5 ∷ name_to 6 ∷ []
