-- Commits of a world whose names the log doesn't have.
use Rattle.std.specs.Prelude.{ℕ, Bool, not, ◌&&◌, List, ◌++◌, length, map, filter, nat_eq, nat_lt}
use Rattle.std.specs.List.{range_with_len, list_any}
use Rattle.id_groups.specs.Lists.{is_in}
use Rattle.id_groups.specs.Name.{Name}
use Rattle.commit_graph.specs.World.{World, names_of}
use Rattle.batch_codec.specs.Payload.{Payload}
use Rattle.change_rules.specs.Tables.{known_in}

-- whether the payloads have no name for a master id of the world
abbrev pub is_lazy : List Payload → World Name → ℕ → Bool
is_lazy payloads w id = nat_lt id (length w.master) && not (is_in nat_eq id (map (λ k. k.id) (known_in payloads)))

-- whether some commit of the world has no name there
abbrev pub has_lazy : List Payload → World Name → Bool
has_lazy payloads w = list_any (is_lazy payloads w) (range_with_len 0 (length w.master))

-- the names of the world that are stored: the known ones of its master ids, and those of its others
abbrev pub stored_names : List Payload → World Name → List Name
stored_names payloads w = map (λ k. k.name) (filter (λ k. nat_lt k.id (length w.master)) (known_in payloads)) ++ names_of w.others
