-- Names of a log that are those of a master's rows.
use Rattle.std.specs.Prelude.{◌≡◌, ◌↔◌, ℕ, List, length}
use Rattle.id_groups.specs.Lists.{IsIn}
use Rattle.id_groups.specs.Name.{Name}
use Rattle.commit_graph.specs.World.{Row}
use Rattle.name_map.specs.Added.{Placed, AllStand, known_of}
use Rattle.name_map.specs.Map.{PlainMap, IsMapOf}
use Rattle.remote_trait.specs.Honest.{IsNamed}

-- the map, over these bytes, knows exactly the rows' names
pub record AreLogNames (names : PlainMap) (bytes : List ℕ) (count : ℕ) (rows : List (Row Name)) : Type 0 where
  pub size : count ≡ length rows
  pub added : List Placed
  pub map_of : IsMapOf names added
  pub stand : AllStand bytes added
  pub named : (id : ℕ) (name : Name) → IsIn (record { id = id; name = name }) (known_of added) ↔ IsNamed rows id name
