-- What a rebase is asked for, and why it is refused.
use Rattle.std.specs.Prelude.{◌≡◌, ◌≤◌, ℕ, List, Option, Some, None, map}
use Rattle.id_groups.specs.Lists.{IsIn, AreDistinct}
use Rattle.id_groups.specs.Name.{Name, same_name}
use Rattle.commit_graph.specs.World.{Row, World, IsWorld, GrowsMaster, rows_of, names_of}
use Rattle.name_map.specs.Added.{Placed, payloads_of, AllStand}
use Rattle.payload_tables.specs.declared.base.BaseRef.{BaseRef}
use Rattle.change_parts.specs.declared.fault.PlanFault.{PlanFault}
use Rattle.change_parts.specs.declared.fault.PlanFault.TheVariants.{Lost}
use Rattle.change_rules.specs.Rebase.{first_conflict, first_lost}
use Rattle.change_rules.specs.Tables.{StandFor, newest}
use Rattle.payload_tables.specs.Kept.{PlainTables, AreTablesOf}
use Rattle.payload_tables.specs.Pending.{HeldRow, PlainPending, HoldsRows, row_names}
use Rattle.std.specs.List.{AllZip}
use Rattle.payload_tables.specs.Bases.{ArePending, IsBaseOf}
use Rattle.change_parts.specs.Asked.{others_count, IsStored, IsFoundIn, HaveParents}
use Rattle.batch_codec.specs.Grammar.{count_after}
use Rattle.change_parts.specs.Plans.{stored_id, over, first_fault, conflict_fault}

-- What a session rebases: its base is that of some of the payloads, and the tables that of all, whose world has the base's master
-- at the front. No commit without a stored name is one that is missing: what the world has of the base's others is stored. For the
-- name of each pending row its id in the newer world was found.
pub record MayRebase (tables : PlainTables) (bytes : List ℕ) (base : BaseRef) (pending : PlainPending) (found : List (Option ℕ)) (w old : World Name) (rows : List (Row Name)) : Type 0 where
  pub added : List Placed
  pub tables_of : AreTablesOf tables added
  pub stand : AllStand bytes added
  pub stand_for : StandFor (payloads_of added) w
  pub world : IsWorld w
  pub before : List Placed
  pub base_of : IsBaseOf base before
  pub base_stands : StandFor (payloads_of before) old
  pub pending_rows : ArePending old pending rows
  pub grows : GrowsMaster old w
  pub missing : (name : Name) → IsIn name (names_of old.others) → IsIn name (names_of (rows_of w)) → IsStored added name
  pub found_are : found ≡ map (stored_id w) (names_of rows)

abbrev pub lost_fault : Option Name → Option PlanFault
lost_fault None = None
lost_fault (Some name) = Some (Lost name)

-- why a rebase is refused: a row that is stored with other parents, or else a parent that is lost
abbrev pub rebase_refusal : World Name → List (Row Name) → Option PlanFault
rebase_refusal w rows = first_fault (conflict_fault (first_conflict same_name w rows)) (lost_fault (first_lost same_name w rows))

-- A rebase is asked over tables of payloads that stand in the log. The base is that of payloads with no more master ids; the
-- pending rows begin where its other ids end, their master parents are in it, and their names are distinct. Of the name of
-- each something was found in the newest base.
pub record MayRebaseOn (tables : PlainTables) (bytes : List ℕ) (base : BaseRef) (pending : PlainPending) (found : List (Option ℕ)) (added before : List Placed) : Type 0 where
  pub tables_of : AreTablesOf tables added
  pub stand : AllStand bytes added
  pub base_of : IsBaseOf base before
  pub grows : base.below ≤ count_after 0 (payloads_of added)
  pub rows : List HeldRow
  pub held : HoldsRows pending rows
  pub first : pending.first ≡ others_count before
  pub parents : HaveParents base.below rows
  pub distinct : AreDistinct (row_names rows)
  pub found_are : AllZip (IsFoundIn added) (row_names rows) found
