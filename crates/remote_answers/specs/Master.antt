-- When a table's segments, and names, are those of a master's rows.
use Rattle.std.specs.Prelude.{◌≡◌, ◌≤◌, ◌^◌, ◌+◌, ℕ, List, ◌++◌, Option, Some, None, length, map, slice_get}
use Rattle.std.specs.Option.{option_map}
use Rattle.id_groups.specs.Lists.{IsIn}
use Rattle.id_groups.specs.Name.{Name, same_name}
use Rattle.commit_graph.specs.World.{Row, names_of}
use Rattle.commit_graph.specs.Ids.{id_in, parent_ids}
use Rattle.segment_codec.specs.Record.{Segment}
use Rattle.segment_codec.specs.Table.{Follow, parents_at}
use Rattle.segment_rules.specs.Flat.{flat_segments_of}
use Rattle.remote_rules.specs.Known.{master_world}
use Rattle.remote_trait.specs.Calls.{AreMaster}
use Rattle.remote_trait.specs.Honest.{IsNamed}

-- The segments begin with those of these rows, and may have other ids behind them.
pub record IsMasterIn (flats : List Segment) (rows : List (Row Name)) : Type 0 where
  pub world : AreMaster rows
  pub few : length rows ≤ 16777216
  pub masters : List Segment
  pub others : List Segment
  pub parts : flats ≡ masters ++ others
  pub flat : masters ≡ flat_segments_of 0 (parent_ids same_name (master_world rows) rows)
  pub follow : Follow 0 (length rows) masters
  pub other_count : ℕ
  pub behind : Follow (2 ^ 56) (2 ^ 56 + other_count) others
  pub parents : (id : ℕ) (row : Row Name) → slice_get rows id ≡ Some row → parents_at flats id ≡ map (id_in same_name (master_world rows)) row.parents

-- the segments are those of these rows, and the names are theirs
abbrev pub IsMasterOf : List Segment → (List (Row Name) → Type 0) → List (Row Name) → Type 0
IsMasterOf flats named rows = IsMasterIn flats rows × named rows

-- the id of the row with this name; none exactly where no row has it
abbrev pub IsIdIn : List (Row Name) → Name → Option ℕ → Type 0
IsIdIn rows name None = IsIn name (names_of rows) → ⊥
IsIdIn rows name (Some id) = IsNamed rows id name

-- the name of the row with this id
abbrev pub name_at : List (Row Name) → ℕ → Option Name
name_at rows id = option_map (λ (row : Row Name). row.name) (slice_get rows id)
