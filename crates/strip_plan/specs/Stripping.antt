-- A strip by numbers: the other ids are numbered in order, and some of them go with all that reach them.
use Rattle.std.specs.Prelude.{◌≡◌, ◌<◌, ◌≤◌, ◌^◌, ◌-◌, ◌&&◌, ◌||◌, not, true, false, ℕ, Bool, List, [], Option, Some, None, length, map, filter, nat_eq, nat_lt, slice_index, slice_index_or, if◌then◌else◌}
use Rattle.std.specs.List.{AllByRecursion, list_any}
use Rattle.id_groups.specs.Lists.{is_in, AreAllIn}
use Rattle.id_groups.specs.Name.{Name, same_name}
use Rattle.id_groups.specs.Id.{is_master_id, other_id}
use Rattle.commit_graph.specs.World.{World, IsNamedWorld, rows_of, names_of}
use Rattle.commit_graph.specs.Ids.{id_in, place_of}
use Rattle.name_map.specs.Part.{upward}
use Rattle.name_map.specs.Added.{Placed, payloads_of, AllStand}
use Rattle.batch_codec.specs.Payload.{Payload}
use Rattle.change_rules.specs.declared.Limits.{Limits}
use Rattle.change_rules.specs.declared.Limit.TheVariants.{Log}
use Rattle.assign_ids.specs.Numbers.{AreBelow}
use Rattle.change_rules.specs.Strip.{stripped}
use Rattle.change_rules.specs.Change.{flush_change}
use Rattle.change_rules.specs.Holding.{HoldPayloads}
use Rattle.change_rules.specs.Tables.{StandFor}
use Rattle.payload_tables.specs.Kept.{PlainTables, AreTablesOf}
use Rattle.change_parts.specs.declared.fault.PlanFault.{PlanFault}
use Rattle.change_parts.specs.declared.fault.PlanFault.TheVariants.{Emptied}
use Rattle.change_parts.specs.Asked.{others_count}
use Rattle.change_parts.specs.Flat.{flat_segments}
use Rattle.change_parts.specs.Moves.{flat_record, new_id, name_at}
use Rattle.change_parts.specs.Rows.{AreRowsBelow}
use Rattle.change_parts.specs.Plans.{over, first_fault, length_with}

-- whether a parent is marked, by its id
abbrev pub is_marked : List Bool → ℕ → Bool
is_marked marks id = not (is_master_id id) && slice_index_or marks (id - 2 ^ 56) false

-- Marks that were spread over rows: a number is marked where it was, or where one of its parents is.
pub record AreSpread (rows : List (List ℕ)) (given marks : List Bool) : Type 0 where
  pub long : length marks ≡ length given
  pub each : (k : ℕ) → k < length given → slice_index_or marks k false ≡ (slice_index_or given k false || list_any (is_marked marks) (slice_index_or rows k []))

-- the numbers of these other ids
abbrev pub places_of : List ℕ → List ℕ
places_of ids = map (λ id. id - 2 ^ 56) ids

-- The numbers below n that stay: no given one, and none with a parent that goes.
pub record AreKept (rows : List (List ℕ)) (n : ℕ) (ids kept : List ℕ) : Type 0 where
  pub given : List Bool
  pub marks : List Bool
  pub given_are : (k : ℕ) → k < n → slice_index_or given k false ≡ is_in nat_eq k (places_of ids)
  pub given_long : length given ≡ n
  pub spread : AreSpread rows given marks
  pub kept_are : kept ≡ filter (λ k. not (slice_index_or marks k false)) (upward 0 n)

-- A strip is asked over tables of payloads that stand in the log; what is given are ids of their others.
pub record MayStripOn (tables : PlainTables) (bytes ids : List ℕ) (added : List Placed) : Type 0 where
  pub tables_of : AreTablesOf tables added
  pub stand : AllStand bytes added
  pub ids_are : AllByRecursion (λ id. (2 ^ 56 ≤ id) × (id < other_id (others_count added))) ids

-- The tables are those of payloads that stand in the log and for the world; what is given are others of it, by their ids.
pub record MayStrip (tables : PlainTables) (bytes ids : List ℕ) (w : World Name) (names : List Name) : Type 0 where
  pub added : List Placed
  pub tables_of : AreTablesOf tables added
  pub stand : AllStand bytes added
  pub stand_for : StandFor (payloads_of added) w
  pub world : IsNamedWorld w
  pub others : AreAllIn names (names_of w.others)
  pub ids_are : ids ≡ map (id_in same_name w) names

-- the fault, if nothing would be left
abbrev pub emptied : World Name → World Name → Option PlanFault
emptied old new = if nat_lt 0 (length (rows_of new)) then None else Some (Emptied (length (rows_of old)))

-- why a strip is refused: nothing would be left, or the log would be too long
abbrev pub strip_refusal : Limits → ℕ → World Name → World Name → List ℕ → Option PlanFault
strip_refusal limits log old new payload = first_fault (emptied old new) (over limits.log (length_with log payload) Log)

-- the new ids of the numbers below n that stay, in their order
pub record AreKeptIds (n : ℕ) (kept ids : List ℕ) : Type 0 where
  pub long : length ids ≡ n
  pub each : (k : ℕ) → k < n → is_in nat_eq k kept ≡ true → slice_index ids k ≡ other_id (place_of nat_eq k kept)

-- The change in which these numbers stay, beside so many master ids: all others by their new ids, and nothing of the master group.
abbrev pub strip_payload : List ℕ → List (List ℕ) → List ℕ → ℕ → List ℕ → Payload
strip_payload ids graph names before kept = record {
  version = 2;
  kind = 1;
  before = before;
  after = before;
  cloned = 0;
  levels = [];
  master = [];
  known = [];
  heads = [];
  others = map flat_record (flat_segments (2 ^ 56) (map (λ k. map (new_id ids) (slice_index_or graph k [])) kept));
  other_names = map (name_at names) kept;
}

-- What a strip of a world comes to by numbers, where these payloads hold the world: the n others have these rows and names, and these
-- of them stay.
pub record IsStrip (added : List Placed) (names : List ℕ) (graph : List (List ℕ)) (n before : ℕ) (kept : List ℕ) (w : World Name) (given : List Name) : Type 0 where
  pub hold : HoldPayloads (payloads_of added) w
  pub n_is : n ≡ length w.others
  pub before_is : before ≡ length w.master
  pub small : before ≤ 16777216
  pub few : n ≤ 65536
  pub short : length kept ≤ n
  pub rows : AreRowsBelow n graph
  pub size : length (stripped same_name w given).others ≡ length kept
  pub below : AreBelow n kept
  pub change : (ids : List ℕ) → AreKeptIds n kept ids → flush_change w (stripped same_name w given) ≡ strip_payload ids graph names before kept
  -- where all stay, the world is the same
  pub whole : length kept ≡ n → stripped same_name w given ≡ w
