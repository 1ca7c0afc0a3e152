-- What a session's change is asked over, and what it answers for each state that the store stands for.
use Rattle.std.specs.Prelude.{◌≡◌, ◌≤◌, ◌+◌, ◌⊎◌, ◌++◌, true, false, ℕ, List, [], ◌∷◌, Option, Some, None, Result, Ok, Err, IfOk, length, map, slice_get, slice_index_or}
use Rattle.std.specs.Option.{option_map}
use Rattle.std.specs.List.{AllZip}
use Rattle.id_groups.specs.Lists.{IsIn}
use Rattle.id_groups.specs.Name.{Name, same_name}
use Rattle.commit_graph.specs.World.{Row, World, GrowsMaster, names_of, with_pending}
use Rattle.batch_codec.specs.Payload.{Payload}
use Rattle.gated_log.specs.Held.{Held, log_bytes, longer}
use Rattle.name_map.specs.Added.{Placed, payloads_of, AllStand}
use Rattle.change_rules.specs.declared.Limits.{Limits}
use Rattle.change_rules.specs.Change.{text_of}
use Rattle.change_rules.specs.Holding.{HoldPayloads}
use Rattle.change_rules.specs.Rebase.{first_conflict, first_lost, left_of}
use Rattle.payload_tables.specs.Kept.{PlainTables, AreTablesOf}
use Rattle.payload_tables.specs.Pending.{HeldRow, PlainPending, HoldsRows, row_names}
use Rattle.payload_tables.specs.Bases.{ArePending}
use Rattle.change_parts.specs.Asked.{IsFoundIn}
use Rattle.change_parts.specs.declared.fault.PlanFault.{PlanFault}
use Rattle.change_parts.specs.declared.fault.PlanFault.TheVariants as faults
use Rattle.change_parts.specs.declared.change.Change.{Change}
use Rattle.change_parts.specs.Plans.{IsPlanOf, IsChangeOf, IsStorable, stored_id}
use Rattle.remote_rules.specs.Mirror.{Mirror}
use Rattle.lazy_names.specs.Cache.{PlainCache}
use Rattle.step_rules.specs.declared.Refusal.{Refusal}
use Rattle.step_rules.specs.declared.Refusal.TheVariants as why
use Rattle.step_rules.specs.State.{Stored, IsStore, session, pending_of, base_of}
use Rattle.step_rules.specs.Verb.{Verb, Flush, Reload}
use Rattle.step_rules.specs.Tests.{Test, first_some, unknown, tests}
use Rattle.step_rules.specs.Worlds.{flush_of}
use Rattle.store_plans.specs.declared.changing.Next.{Next}
use Rattle.store_plans.specs.Sessions.{PlainSession, base_added, IsSessionFor, IsOnNewest}
use Rattle.store_plans.specs.Looking.{AreRight, Tried, refusal_in, test_in}
use Rattle.change_rules.specs.Strip.{stripped}

-- the log and the tables are those of the payloads that were added
pub record AreOver (log : Held) (tables : PlainTables) (added : List Placed) : Type 0 where
  pub tables_of : AreTablesOf tables added
  pub stand : AllStand (log_bytes log) added
  pub texts : log.payloads ≡ map text_of (payloads_of added)

-- The payloads that were added are those of the state, of a run that began with so many, and the session is that of the state.
pub record IsOn (began : ℕ) (added : List Placed) (x : PlainSession) (st : Stored) (s : ℕ) : Type 0 where
  pub state : IsStore st
  pub payloads : payloads_of added ≡ st.payloads
  pub count : length st.payloads ≡ began + length st.past
  pub hold : HoldPayloads st.payloads st.stored
  pub base : HoldPayloads (payloads_of (base_added added x)) (base_of st s)
  pub grows : GrowsMaster (base_of st s) st.stored
  pub session : IsSessionFor began st x (session st s)

-- the pending rows have these names, in order
abbrev pub HaveNames : PlainPending → List Name → Type 0
HaveNames pending names = (rows : List HeldRow) × HoldsRows pending rows × (row_names rows ≡ names)

-- of the name of each pending row something was found in the newest base
abbrev pub RowsFound : List Placed → PlainPending → List (Option ℕ) → Type 0
RowsFound added pending found = (names : List Name) → HaveNames pending names → AllZip (IsFoundIn added) names found

-- The test of a head: it is looked up in the stored world, and refused where it is neither there nor pending.
abbrev pub head_test : List Payload → World Name → List (Row Name) → Name → Test
head_test payloads w rows = test_in payloads w rows (unknown (with_pending w rows))

-- the test of a pending row's name, which is looked up in the stored world and never refused
abbrev pub row_test : List Payload → World Name → Name → Test
row_test payloads w = test_in payloads w [] (λ _. None)

-- a head is found as the stored world has it; one that is pending may not be found yet
abbrev pub IsHeadFound : World Name → List (Row Name) → Name → Option ℕ → Type 0
IsHeadFound w rows name found = (found ≡ stored_id w name) ⊎ ((found ≡ None) × IsIn name (names_of rows))

-- a row's name is found as the stored world has it
abbrev pub IsRowFound : World Name → Name → Option ℕ → Type 0
IsRowFound w name found = found ≡ stored_id w name

-- A name is looked up in the newest base, of the payloads that were added: whatever the mirrors tell, its test is tried, and what is
-- found may be its; where the mirrors serve the base's world, it is found rightly.
pub record FindsIt {X : Type 0} (added : List Placed) (w : World Name) (test : Name → Test) (May Is : Name → X → Type 0) (name : Name) (old new : List Mirror) (before now : PlainCache) (result : Result X Refusal) : Type 0 where
  pub tried : Tried (payloads_of added) w (test name ∷ []) old new before now (refusal_in result)
  pub found : IfOk result (May name)
  pub right : AreRight (payloads_of added) w old → IfOk result (Is name)

-- names are, from left to right
pub record FindsEach {X : Type 0} (added : List Placed) (w : World Name) (test : Name → Test) (May Is : Name → X → Type 0) (names : List Name) (old new : List Mirror) (before now : PlainCache) (result : Result (List X) Refusal) : Type 0 where
  pub tried : Tried (payloads_of added) w (map test names) old new before now (refusal_in result)
  pub found : IfOk result (AllZip May names)
  pub right : AreRight (payloads_of added) w old → IfOk result (AllZip Is names)

-- a head, heads, and the names of a session's rows: an id of the base is found, or the name isn't stored
abbrev pub FindsHead : List Placed → World Name → List (Row Name) → Name → List Mirror → List Mirror → PlainCache → PlainCache → Result (Option ℕ) Refusal → Type 0
FindsHead added w rows = FindsIt added w (head_test (payloads_of added) w rows) (IsFoundIn added) (IsHeadFound w rows)

abbrev pub FindsHeads : List Placed → World Name → List (Row Name) → List Name → List Mirror → List Mirror → PlainCache → PlainCache → Result (List (Option ℕ)) Refusal → Type 0
FindsHeads added w rows = FindsEach added w (head_test (payloads_of added) w rows) (IsFoundIn added) (IsHeadFound w rows)

abbrev pub FindsRows : List Placed → World Name → List Name → List Mirror → List Mirror → PlainCache → PlainCache → Result (List (Option ℕ)) Refusal → Type 0
FindsRows added w = FindsEach added w (row_test (payloads_of added) w) (IsFoundIn added) (IsRowFound w)

-- what was found of the row with the name, of rows with these names; none where none has it
abbrev pub IsRowOf : List Name → List (Option ℕ) → Name → Option ℕ → Type 0
IsRowOf names rows name found = ((IsIn name names → ⊥) × (found ≡ None)) ⊎ ((k : ℕ) × (slice_get names k ≡ Some name) × (found ≡ slice_index_or rows k None))

-- what is found of a head stays, and else it is what was found of the row with its name
abbrev pub IsTaken : List Name → List (Option ℕ) → Name → Option ℕ → Option ℕ → Type 0
IsTaken names rows head (Some id) new = new ≡ Some id
IsTaken names rows head None new = IsRowOf names rows head new

-- the first that refuses does, or there was no memory
abbrev pub IsRefusedBy : List (Option Refusal) → Refusal → Type 0
IsRefusedBy refusals refusal = (refusal ≡ why.Memory) ⊎ (first_some refusals ≡ Some refusal)

-- a plan's fault as a refusal
abbrev pub refusal_of : PlanFault → Refusal
refusal_of (faults.Unknown name) = why.Unknown name
refusal_of (faults.Conflict name) = why.Conflict name
refusal_of (faults.Lost name) = why.Lost name
refusal_of (faults.Emptied n) = why.Emptied n
refusal_of (faults.Full what limit) = why.Full what limit
refusal_of (faults.BadClone at) = why.MismatchClone at
refusal_of (faults.BadRow id) = why.MismatchRow id
refusal_of faults.Memory = why.Memory

-- the refusal is that of a plan
abbrev pub IsOfPlan : Refusal → Type 0
IsOfPlan refusal = (fault : PlanFault) × (refusal ≡ refusal_of fault)

-- the rows of a session that the stored world doesn't have, or why there are none, once the names of all were found
abbrev pub RebasesAnew : Stored → ℕ → Result PlainPending Refusal → Type 0
RebasesAnew st s (Ok left) =
    (first_conflict same_name st.stored (pending_of st s) ≡ None) × (first_lost same_name st.stored (pending_of st s) ≡ None)
    × ArePending st.stored left (left_of same_name st.stored (pending_of st s))
RebasesAnew st s (Err refusal) =
    IsRefusedBy (option_map why.Conflict (first_conflict same_name st.stored (pending_of st s)) ∷ option_map why.Lost (first_lost same_name st.stored (pending_of st s)) ∷ []) refusal

-- A rebase of the session's rows: where the mirrors serve, these are those that the stored world doesn't have, and each of the heads
-- was found.
pub record Rebases (limits : Limits) (st : Stored) (s : ℕ) (heads : List Name) (old new : List Mirror) (before now : PlainCache) (found later : List (Option ℕ)) (result : Result PlainPending Refusal) : Type 0 where
  pub tried : Tried st.payloads st.stored (tests limits st s Reload) old new before now (refusal_in result)
  pub right : AreRight st.payloads st.stored old → IfOk result (λ left. ArePending st.stored left (left_of same_name st.stored (pending_of st s)))
  pub heads_are : AreRight st.payloads st.stored old → AllZip (IsHeadFound st.stored (pending_of st s)) heads found → IfOk result (λ left. later ≡ map (stored_id st.stored) heads)

-- the session is on the newest world
pub record Reloads (limits : Limits) (st : Stored) (s : ℕ) (old new : List Mirror) (before now : PlainCache) (result : Result PlainSession Refusal) : Type 0 where
  pub tried : Tried st.payloads st.stored (tests limits st s Reload) old new before now (refusal_in result)
  pub right : AreRight st.payloads st.stored old → IfOk result (λ x. ArePending st.stored x.pending (left_of same_name st.stored (pending_of st s)))

-- the change makes the stored world this one
pub record IsPlanTo (st : Stored) (next : World Name) (change : Change) : Type 0 where
  pub payload : List ℕ
  pub plan : IsPlanOf change st.stored next payload
  pub change_of : IsChangeOf st.stored next payload

-- what the plan of a command answers that makes it so
pub record PlansChange (limits : Limits) (st : Stored) (s : ℕ) (verb : Verb) (next : World Name) (old new : List Mirror) (before now : PlainCache) (result : Result Change Refusal) : Type 0 where
  pub tried : Tried st.payloads st.stored (tests limits st s verb) old new before now (refusal_in result)
  pub right : AreRight st.payloads st.stored old → IfOk result (IsPlanTo st next)

-- the same of what was prepared
pub record PreparesChange (limits : Limits) (st : Stored) (s : ℕ) (verb : Verb) (next : World Name) (old new : List Mirror) (before now : PlainCache) (result : Result Next Refusal) : Type 0 where
  pub tried : Tried st.payloads st.stored (tests limits st s verb) old new before now (refusal_in result)
  pub right : AreRight st.payloads st.stored old → IfOk result (λ ready. IsPlanTo st next ready.change)

-- of a flush
abbrev pub PlansFlush : Limits → Stored → ℕ → List Name → List Mirror → List Mirror → PlainCache → PlainCache → Result Change Refusal → Type 0
PlansFlush limits st s heads = PlansChange limits st s (Flush heads) (flush_of st s heads)

abbrev pub PreparesFlush : Limits → Stored → ℕ → List Name → List Mirror → List Mirror → PlainCache → PlainCache → Result Next Refusal → Type 0
PreparesFlush limits st s heads = PreparesChange limits st s (Flush heads) (flush_of st s heads)

-- where the next payload stands in a log
abbrev pub next_place : Held → ℕ
next_place log = length (log_bytes log) + 8

-- the payload behind those that were added, at its place
abbrev pub added_behind : Held → List Placed → Payload → List Placed
added_behind log added last = added ++ record { at = next_place log; payload = last } ∷ []

-- All is ready for the payload of a change: it is in the tables, the log has room for it, and the session is on it.
pub record IsReady (limits : Limits) (old new : Held) (tables : PlainTables) (added : List Placed) (change : Change) (x : PlainSession) : Type 0 where
  pub room : new ≡ record old { room = new.room }
  pub fits : longer new change.payload ≤ new.limit
  pub enough : longer new change.payload ≤ new.room
  pub kind : ℕ
  pub last : Payload
  pub storable : IsStorable kind limits (length (log_bytes old)) added change last
  pub tables_of : AreTablesOf tables (added_behind old added last)
  pub session_of : IsOnNewest (added_behind old added last) x

-- What was prepared: where nothing changes, the session is on the newest payloads; or all is ready for the payload.
pub record IsPrepared (limits : Limits) (old new : Held) (before after : PlainTables) (added : List Placed) (change : Change) (x : PlainSession) : Type 0 where
  pub same : change.same ≡ true → (after ≡ before) × IsOnNewest added x
  pub ready : change.same ≡ false → IsReady limits old new after added change x

-- the same log, with some room
abbrev pub HasRoom : Held → Held → Type 0
HasRoom old new = new ≡ record old { room = new.room }

-- what a strip leaves of the stored world
abbrev pub strip_of : Stored → List Name → World Name
strip_of st names = stripped same_name st.stored names
