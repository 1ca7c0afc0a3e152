-- What a flush is planned from, and why it is refused.
use Rattle.std.specs.Prelude.{◌≡◌, ◌<◌, ◌≤◌, ◌^◌, ◌⊎◌, ℕ, List, [], ◌∷◌, Option, Some, None, IfSome, length, map, if◌then◌else◌, slice_index_or}
use Rattle.id_groups.specs.Lists.{is_in}
use Rattle.id_groups.specs.Name.{Name, same_name}
use Rattle.commit_graph.specs.World.{Row, World, IsNamedWorld, rows_of, names_of}
use Rattle.name_map.specs.Added.{Placed, payloads_of, AllStand}
use Rattle.change_rules.specs.declared.Limits.{Limits}
use Rattle.change_parts.specs.declared.fault.PlanFault.{PlanFault}
use Rattle.change_parts.specs.declared.fault.PlanFault.TheVariants.{Unknown}
use Rattle.change_rules.specs.Tables.{StandFor}
use Rattle.payload_tables.specs.Kept.{PlainTables, AreTablesOf}
use Rattle.payload_tables.specs.Pending.{HeldRow, PlainPending, HoldsRows}
use Rattle.id_groups.specs.Id.{other_id}
use Rattle.std.specs.List.{AllZip}
use Rattle.payload_tables.specs.Bases.{ArePending}
use Rattle.segment_codec.specs.Record.{Segment}
use Rattle.segment_codec.specs.Table.{IsLawful}
use Rattle.assign_ids.specs.Numbers.{order_of}
use Rattle.change_parts.specs.Moves.{nodes_in, rest_of}
use Rattle.change_parts.specs.Rows.{table_rows}
use Rattle.change_parts.specs.Plans.{stored_id, first_fault, size_refusal}
use Rattle.change_parts.specs.Asked.{IsFoundIn, MayStore}
use Rattle.change_parts.specs.Facts.{MoveFacts}

-- the first of the names that the world doesn't have
abbrev pub first_unknown : World Name → List Name → Option Name
first_unknown w [] = None
first_unknown w (name ∷ more) = if is_in same_name name (names_of (rows_of w)) then first_unknown w more else Some name

abbrev pub unknown_fault : Option Name → Option PlanFault
unknown_fault None = None
unknown_fault (Some name) = Some (Unknown name)

-- why a flush of a view is refused: a head that isn't there, or a size
abbrev pub flush_refusal : Limits → ℕ → World Name → World Name → List Name → List ℕ → Option PlanFault
flush_refusal limits log view new heads payload = first_fault (unknown_fault (first_unknown view heads)) (size_refusal limits log new payload)

-- What a session flushes: the tables are those of payloads that stand in the log and for the world, the pending rows are
-- behind it, and the world's id of each head was found.
pub record MayFlush (tables : PlainTables) (bytes : List ℕ) (pending : PlainPending) (heads : List Name) (found : List (Option ℕ)) (w : World Name) (rows : List (Row Name)) : Type 0 where
  pub added : List Placed
  pub tables_of : AreTablesOf tables added
  pub stand : AllStand bytes added
  pub stand_for : StandFor (payloads_of added) w
  pub world : IsNamedWorld w
  pub pending_rows : ArePending w pending rows
  pub found_are : found ≡ map (stored_id w) heads

-- pending rows, and of each head an id that is a master id or below theirs, or none
pub record MayLook (pending : PlainPending) (heads : List Name) (found : List (Option ℕ)) : Type 0 where
  pub rows : List HeldRow
  pub held : HoldsRows pending rows
  pub found_are : AllZip (λ name o. IfSome o (λ id. (id < 2 ^ 56) ⊎ ((2 ^ 56 ≤ id) × (id < other_id pending.first)))) heads found

-- the pending rows of a session, and the id in the stored world of each head
pub record MayFind (pending : PlainPending) (heads : List Name) (found : List (Option ℕ)) (w : World Name) (rows : List (Row Name)) : Type 0 where
  pub small : length w.master ≤ 16777216
  pub pending_rows : ArePending w pending rows
  pub found_are : found ≡ map (stored_id w) heads

-- A plan is asked over tables of payloads that stand in the log, with pending rows that may be stored behind them; of each
-- head something was found.
pub record MayPlan (tables : PlainTables) (bytes : List ℕ) (pending : PlainPending) (heads : List Name) (found : List (Option ℕ)) (added : List Placed) : Type 0 where
  pub tables_of : AreTablesOf tables added
  pub stand : AllStand bytes added
  pub pending_rows : MayStore pending added
  pub found_are : AllZip (IsFoundIn added) heads found

-- A flush of a log of so many bytes, by its numbers, of which so many are pending: their parents, which of them move, and
-- which stay.
pub record IsMove (names : List ℕ) (n more before log : ℕ) (graph : List (List ℕ)) (order rest : List ℕ) (w : World Name) (rows : List (Row Name)) (heads : List Name) : Type 0 where
  pub tables : PlainTables
  pub bytes : List ℕ
  pub pending : PlainPending
  pub numbers : List ℕ
  pub flats : List Segment
  pub facts : MoveFacts tables bytes pending numbers flats names n before w rows heads
  pub lawful : IsLawful flats
  pub graph_is : graph ≡ table_rows flats n
  pub order_is : order ≡ order_of (λ k. slice_index_or (nodes_in flats n) k []) n numbers
  pub rest_is : rest ≡ rest_of n order
  pub pending_is : more ≡ length pending.places
  pub log_is : log ≡ length bytes
