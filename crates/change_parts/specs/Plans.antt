-- What a plan answers.
use Rattle.std.specs.Prelude.{◌≡◌, ◌↔◌, ◌≤◌, true, false, ℕ, ◌+◌, List, [], ◌∷◌, Option, Some, None, length, map, nat_lt, IsTrue, if◌then◌else◌}
use Rattle.id_groups.specs.Lists.{is_in, AreAllIn}
use Rattle.assign_ids.specs.Numbers.{others_of}
use Rattle.change_parts.specs.Moves.{node_of}
use Rattle.id_groups.specs.Name.{Name, same_name}
use Rattle.commit_graph.specs.World.{Row, World, IsNamedWorld, rows_of, names_of, with_pending}
use Rattle.commit_graph.specs.Ids.{id_in}
use Rattle.name_map.specs.Added.{Placed, payloads_of, AllStand}
use Rattle.change_rules.specs.declared.Limits.{Limits}
use Rattle.change_rules.specs.declared.Limit.{Limit}
use Rattle.change_rules.specs.declared.Limit.TheVariants.{Others, Master, Log}
use Rattle.change_parts.specs.declared.change.Change.{Change}
use Rattle.change_parts.specs.declared.fault.PlanFault.{PlanFault}
use Rattle.change_parts.specs.declared.fault.PlanFault.TheVariants.{Conflict, Full, BadClone}
use Rattle.change_rules.specs.Change.{flush_change}
use Rattle.change_rules.specs.Tables.{StandFor}
use Rattle.payload_tables.specs.Kept.{PlainTables, AreTablesOf}
use Rattle.payload_tables.specs.Pending.{PlainPending}
use Rattle.payload_tables.specs.Bases.{ArePending}
use Rattle.change_parts.specs.Asked.{others_count}
use Rattle.batch_codec.specs.Payload.{Payload, payload_bytes}
use Rattle.batch_codec.specs.Grammar.{count_after}
use Rattle.change_rules.specs.Lawful.{MayFollow}

-- the bytes of the change that a flush makes
abbrev pub flush_payload : World Name → World Name → List ℕ
flush_payload old new = payload_bytes (flush_change old new)

-- the id of a name in the world, if it has the name
abbrev pub stored_id : World Name → Name → Option ℕ
stored_id w name = if is_in same_name name (names_of (rows_of w)) then Some (id_in same_name w name) else None

-- the fault, if the number would exceed the limit
abbrev pub over : ℕ → ℕ → Limit → Option PlanFault
over limit n which = if nat_lt limit n then Some (Full which limit) else None

abbrev pub first_fault : Option PlanFault → Option PlanFault → Option PlanFault
first_fault (Some fault) later = Some fault
first_fault None later = later

-- how long a log of so many bytes becomes by a payload of these; where there is none, nothing is written
abbrev pub length_with : ℕ → List ℕ → ℕ
length_with log [] = 0
length_with log (byte ∷ more) = log + 9 + length (byte ∷ more)

-- why a change is refused: the first of these numbers that is above its limit
abbrev pub size_refusal : Limits → ℕ → World Name → List ℕ → Option PlanFault
size_refusal limits log new payload =
    first_fault (over limits.others (length new.others) Others)
    (first_fault (over limits.master (length new.master) Master)
    (over limits.log (length_with log payload) Log))

-- The plan is that of the change from the old world to the new one; where they are the same, there is nothing to write.
pub record IsPlanOf (plan : Change) (old new : World Name) (payload : List ℕ) : Type 0 where
  pub payload_is : plan.payload ≡ payload
  pub master : plan.master ≡ length new.master
  pub others : plan.others ≡ length new.others
  pub same : IsTrue plan.same ↔ (new ≡ old)

-- the payload of a change, or none where nothing changes
pub record IsChangeOf (old new : World Name) (payload : List ℕ) : Type 0 where
  pub none : new ≡ old → payload ≡ []
  pub some : (new ≡ old → ⊥) → payload ≡ flush_payload old new

abbrev pub conflict_fault : Option Name → Option PlanFault
conflict_fault None = None
conflict_fault (Some name) = Some (Conflict name)

-- What a session flushes, where all heads are there: these are the numbers of those that aren't in master.
pub record MayMove (tables : PlainTables) (bytes : List ℕ) (pending : PlainPending) (numbers : List ℕ) (w : World Name) (rows : List (Row Name)) (heads : List Name) : Type 0 where
  pub added : List Placed
  pub tables_of : AreTablesOf tables added
  pub stand : AllStand bytes added
  pub stand_for : StandFor (payloads_of added) w
  pub world : IsNamedWorld w
  pub pending_rows : ArePending w pending rows
  pub known : AreAllIn heads (names_of (rows_of (with_pending w rows)))
  pub numbers_are : numbers ≡ others_of (map node_of (map (id_in same_name (with_pending w rows)) heads))

-- The payload is one of this kind that may be stored behind these: it is in the grammar, may follow them and has room in the log.
pub record IsStorable (kind : ℕ) (limits : Limits) (log : ℕ) (added : List Placed) (change : Change) (last : Payload) : Type 0 where
  pub payload : change.payload ≡ payload_bytes last
  pub follows : MayFollow (payloads_of added) last
  pub kind_is : last.kind ≡ kind
  pub master : change.master ≡ last.after
  pub others : change.others ≡ length last.other_names
  pub fits : log + 9 + length change.payload ≤ limits.log

-- what a change means for the payloads, whatever world they stand for
pub record MayComeNext (kind : ℕ) (limits : Limits) (log : ℕ) (added : List Placed) (change : Change) : Type 0 where
  pub stays : change.same ≡ true → (change.payload ≡ []) × (change.master ≡ count_after 0 (payloads_of added)) × (change.others ≡ others_count added)
  pub changes : change.same ≡ false → (last : Payload) × IsStorable kind limits log added change last

-- the same of a change that is tested against the limits of commits too
pub record MayBeStored (kind : ℕ) (limits : Limits) (log : ℕ) (added : List Placed) (change : Change) : Type 0 where
  pub next : MayComeNext kind limits log added change
  pub master_fits : change.master ≤ limits.master
  pub others_fit : change.others ≤ limits.others

abbrev pub clone_fault : Option ℕ → Option PlanFault
clone_fault None = None
clone_fault (Some at) = Some (BadClone at)
