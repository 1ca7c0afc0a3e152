-- What an honest remote answers to who clones it, by what holds of each item.
use Rattle.std.specs.Prelude.{◌≡◌, ◌≤◌, ◌<◌, ◌+◌, ◌-◌, ◌⊎◌, ℕ, List, [], ◌∷◌, Some, length, slice_get}
use Rattle.id_groups.specs.Lists.{IsIn, IsFiltered}
use Rattle.id_groups.specs.Name.{Name, same_name}
use Rattle.commit_graph.specs.World.{Row, names_of}
use Rattle.commit_graph.specs.Ids.{parent_ids}
use Rattle.segment_codec.specs.Record.{Segment}
use Rattle.segment_codec.specs.Table.{Follow}
use Rattle.remote_rules.specs.CloneData.{CloneData, KnownName}
use Rattle.remote_rules.specs.Known.{master_world, master_graph, IsKnownTo}

-- A flat segment of ids with these parents: its lowest id has its parents, each other one the id before alone, and the lowest
-- doesn't go on so.
pub record IsFlatIn (parents : List (List ℕ)) (s : Segment) : Type 0 where
  pub flat : s.level ≡ 0
  pub lowest : slice_get parents s.low ≡ Some s.parents
  pub others : (id : ℕ) → s.low < id → id ≤ s.high → slice_get parents id ≡ Some ((id - 1) ∷ [])
  pub begins : 0 < s.low → s.parents ≡ (s.low - 1) ∷ [] → ⊥

-- segments that follow one another and have all these ids, each of them flat
pub record AreFlatOf (parents : List (List ℕ)) (segments : List Segment) : Type 0 where
  pub follow : Follow 0 (length parents) segments
  pub each : (s : Segment) → IsIn s segments → IsFlatIn parents s

-- the rows' names with their ids, from this id on
abbrev pub numbered : ℕ → List (Row Name) → List KnownName
numbered id [] = []
numbered id (row ∷ more) = record { id = id; name = row.name } ∷ numbered (id + 1) more

-- no row has it as a parent
abbrev pub IsHead : List (Row Name) → Name → Type 0
IsHead rows name = (row : Row Name) → IsIn row rows → IsIn name row.parents → ⊥

-- a clone stores this name: it may be named from the heads, or is that of a segment's highest id
abbrev pub IsStoredIn : List (Row Name) → CloneData → KnownName → Type 0
IsStoredIn rows told k = IsKnownTo (master_graph (master_world rows)) told.heads k.name ⊎ ((s : Segment) × IsIn s told.segments × (s.high ≡ k.id))

-- the clone data of a master with these rows: its flat segments, its heads and the names that are stored, each ascending by id
pub record IsCloneOf (rows : List (Row Name)) (told : CloneData) : Type 0 where
  pub segments : AreFlatOf (parent_ids same_name (master_world rows) rows) told.segments
  pub heads : IsFiltered (IsHead rows) (names_of rows) told.heads
  pub names : IsFiltered (IsStoredIn rows told) (numbered 0 rows) told.names
