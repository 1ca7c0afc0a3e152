-- What is kept of the payloads that were added, and which payloads it is that of.
use Rattle.std.specs.Prelude.{◌≡◌, ◌≤◌, ℕ, ◌+◌, ◌*◌, List, [], Option, Some, None, length, take, drop, flat_map, ◌==◌, if◌then◌else◌}
use Rattle.std.specs.List.{AllByRecursion, last_or}
use Rattle.batch_codec.specs.Payload.{Payload, master_start, others_start, names_start, names_bytes}
use Rattle.id_groups.specs.Name.{Name, IsName}
use Rattle.change_rules.specs.Lawful.{AreLawful}
use Rattle.change_rules.specs.Tables.{remote_heads, cloned_count}
use Rattle.name_index.specs.Index.{NamedPlace, IsIndexOf}
use Rattle.name_index.specs.declared.entry.Entry.{Entry}
use Rattle.name_map.specs.Added.{Placed, payloads_of, names_from}
use Rattle.name_map.specs.Map.{PlainMap, IsMapOf}
use Rattle.name_map.specs.declared.fault.MapFault.{MapFault}
use Rattle.name_map.specs.declared.fault.MapFault.TheVariants.{Double, Memory as MapMemory}
use Rattle.payload_tables.specs.declared.fault.TableFault.{TableFault}
use Rattle.payload_tables.specs.declared.fault.TableFault.TheVariants.{Unlawful, Memory}
use Rattle.flat_segments.specs.Placed.{PlacedSegment, placed_segments}
use Rattle.flat_segments.specs.Kept.{KeptFlats, IsTableOf, IsSectionOf}
use Rattle.edge_index.specs.Index.{PlainEdges, IsEdgeIndexOf}
use Rattle.segment_levels.specs.Kept.{KeptLevels, AreLevelsOf}
use Rattle.segment_levels.specs.Flats.{flats_of}

-- what is kept of the other ids of one payload
pub record PlainOthers : Type 0 where
  pub section : KeptFlats
  -- where the first of their names stands, and how many there are
  pub names : ℕ
  pub count : ℕ
  -- the runs of the index of their names
  pub index : List (List Entry)

-- what is kept of all payloads
pub record PlainTables : Type 0 where
  pub flat : KeptFlats
  pub levels : KeptLevels
  pub names : PlainMap
  -- the other ids of the newest one
  pub others : PlainOthers
  -- the heads of the remote that was cloned, and how many commits came
  pub heads : List Name
  pub cloned : ℕ
  -- the version of the newest one, and 0 where there is none
  pub version : ℕ
  -- edges of the master segments, maybe not of the last ones
  pub edges : PlainEdges

-- the records of a payload's other ids, at their places
abbrev pub other_records : Placed → List PlacedSegment
other_records a = placed_segments (a.at + others_start a.payload) a.payload.others

-- the names of a payload's other ids, at their places
abbrev pub other_named : Placed → List NamedPlace
other_named a = names_from (a.at + names_start a.payload) a.payload.other_names

-- it is kept of the payload's other ids; of no payload, nothing is
pub record AreOthersOf (others : PlainOthers) (a : Placed) : Type 0 where
  pub section : IsSectionOf others.section (other_records a)
  pub names : others.names ≡ a.at + names_start a.payload
  pub count : others.count ≡ length a.payload.other_names
  pub index : IsIndexOf others.index (other_named a)

pub record AreNoOthers (others : PlainOthers) : Type 0 where
  pub section : IsSectionOf others.section []
  pub names : others.names ≡ 0
  pub count : others.count ≡ 0
  pub index : IsIndexOf others.index []

abbrev pub AreOthersIn : PlainOthers → Option Placed → Type 0
AreOthersIn others None = AreNoOthers others
AreOthersIn others (Some a) = AreOthersOf others a

-- names stand in the bytes as those of these other ids, and the index is that of them
pub record AreNamed (bytes : List ℕ) (others : PlainOthers) : Type 0 where
  pub names : List Name
  pub each : AllByRecursion IsName names
  pub room : others.names + 20 * others.count ≤ length bytes
  pub stand : take (20 * others.count) (drop others.names bytes) ≡ names_bytes names
  pub count : others.count ≡ length names
  pub index : IsIndexOf others.index (names_from others.names names)

-- the payload that was added last
abbrev pub last_added : List Placed → Option Placed
last_added added = last_or None added

-- the records of all master ids, at their places
abbrev pub master_records : List Placed → List PlacedSegment
master_records added = flat_map (λ a. placed_segments (a.at + master_start a.payload) a.payload.master) added

-- the version of the last of these, and 0 where there is none; none before it has a later one
abbrev pub version_of : Option Payload → ℕ
version_of None = 0
version_of (Some p) = p.version

abbrev pub newest_version : List Payload → ℕ
newest_version payloads = version_of (last_or None payloads)

-- The tables are those of the payloads that were added, in this order, which are lawful.
pub record AreTablesOf (tables : PlainTables) (added : List Placed) : Type 0 where
  pub lawful : AreLawful [] (payloads_of added)
  pub flat : IsTableOf tables.flat (master_records added)
  pub levels : AreLevelsOf tables.levels (flats_of tables.flat (master_records added))
  pub names : IsMapOf tables.names added
  pub others : AreOthersIn tables.others (last_added added)
  pub heads : tables.heads ≡ remote_heads (payloads_of added)
  pub cloned : tables.cloned ≡ cloned_count (payloads_of added)
  pub version : tables.version ≡ newest_version (payloads_of added)
  pub edges : IsEdgeIndexOf tables.edges (flats_of tables.flat (master_records added))

-- the table has the master records of the payloads, and its levels are theirs
pub record HaveMasters (table : KeptFlats) (levels : KeptLevels) (added : List Placed) : Type 0 where
  pub flat : IsTableOf table (master_records added)
  pub levels_of : AreLevelsOf levels (flats_of table (master_records added))

-- the table, its levels and the map are those of the payloads
pub record AreMastersOf (table : KeptFlats) (levels : KeptLevels) (map : PlainMap) (added : List Placed) : Type 0 where
  pub lawful : AreLawful [] (payloads_of added)
  pub flat : IsTableOf table (master_records added)
  pub levels_of : AreLevelsOf levels (flats_of table (master_records added))
  pub names : IsMapOf map added

-- the cause, as the tables tell it
abbrev pub map_fault : MapFault → TableFault
map_fault Double = Unlawful
map_fault MapMemory = Memory

-- what a payload of this kind leaves: a flush what was there, a clone and a whole store their own
abbrev pub by_kind : {X : Type 0} → ℕ → X → X → X
by_kind kind own old = if kind == 1 then old else own
