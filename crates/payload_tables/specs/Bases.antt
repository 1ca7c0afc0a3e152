-- A base: the tables cut at a master count, and the other ids of one payload.
use Rattle.std.specs.Prelude.{◌≡◌, ◌<◌, ◌≤◌, ◌^◌, ◌⊎◌, ℕ, List, ◌++◌, Some, length, map}
use Rattle.std.specs.List.{AllByRecursion}
use Rattle.id_groups.specs.Name.{Name, same_name}
use Rattle.id_groups.specs.Id.{other_id}
use Rattle.commit_graph.specs.World.{Row, World, IsWorld, with_pending}
use Rattle.commit_graph.specs.Ids.{id_in, row_at, parent_ids}
use Rattle.segment_codec.specs.Record.{Segment}
use Rattle.segment_codec.specs.Table.{parents_at, Follow}
use Rattle.segment_rules.specs.Flat.{flat_segments_of}
use Rattle.batch_codec.specs.Payload.{Known}
use Rattle.batch_codec.specs.Grammar.{count_after}
use Rattle.name_map.specs.Added.{Placed, payloads_of, known_of, AllStand}
use Rattle.payload_tables.specs.declared.base.BaseRef.{BaseRef}
use Rattle.change_rules.specs.Change.{known_from}
use Rattle.change_rules.specs.Tables.{newest, other_names_in}
use Rattle.payload_tables.specs.Kept.{PlainTables, PlainOthers, AreTablesOf, AreOthersIn, last_added}
use Rattle.payload_tables.specs.Pending.{HeldRow, PlainPending, HoldsRows}

-- Of the payloads that were added, these are the first ones; the other ids are those of the last of these, and below them
-- are the master ids of these.
pub record MayBase (bytes : List ℕ) (tables : PlainTables) (others : PlainOthers) (below : ℕ) (added : List Placed) : Type 0 where
  pub behind : List Placed
  pub tables_of : AreTablesOf tables (added ++ behind)
  pub stand : AllStand bytes (added ++ behind)
  pub others_of : AreOthersIn others (last_added added)
  pub count : below ≡ count_after 0 (payloads_of added)

-- the base is that of the first payloads that were added
abbrev pub IsBaseOf : BaseRef → List Placed → Type 0
IsBaseOf b added = MayBase b.bytes.now b.tables.now b.others.now b.below added

-- all ids with a stored name, and these names: known master ids, and the other ids of the last payload
abbrev pub stored_in : List Placed → List Known
stored_in added = known_of added ++ known_from (2 ^ 56) (other_names_in (newest (payloads_of added)))

-- a row of a world, its parents by their ids
abbrev pub held_row : World Name → Row Name → HeldRow
held_row w row = record { name = row.name; parents = map (id_in same_name w) row.parents }

-- the pending rows of a session whose base has this world
pub record ArePending (w : World Name) (pending : PlainPending) (rows : List (Row Name)) : Type 0 where
  pub first : pending.first ≡ length w.others
  pub held : HoldsRows pending (map (held_row (with_pending w rows)) rows)
  pub view : IsWorld (with_pending w rows)

-- the segments are those of the world: they have its ids, each with its row's parents
pub record AreSegmentsOf (w : World Name) (flats : List Segment) : Type 0 where
  pub masters : List Segment
  pub others : List Segment
  pub parts : flats ≡ masters ++ others
  pub master_ids : Follow 0 (length w.master) masters
  pub other_ids : Follow (2 ^ 56) (other_id (length w.others)) others
  pub parents : (id : ℕ) (row : Row Name) → row_at w id ≡ Some row → parents_at flats id ≡ map (id_in same_name w) row.parents

-- the flat segments of a world: those of its master ids, and those of the others
abbrev pub flat_segments_in : World Name → List Segment
flat_segments_in w = flat_segments_of 0 (parent_ids same_name w w.master) ++ flat_segments_of (2 ^ 56) (parent_ids same_name w w.others)

-- the pending rows may stand behind the base: they begin where its other ids end, and their master parents are among its own
pub record MayView (b : BaseRef) (added : List Placed) (pending : PlainPending) : Type 0 where
  pub rows : List HeldRow
  pub held : HoldsRows pending rows
  pub first : pending.first ≡ length (other_names_in (newest (payloads_of added)))
  pub parents : AllByRecursion (λ row. AllByRecursion (λ p. (p < b.below) ⊎ (2 ^ 56 ≤ p)) row.parents) rows
