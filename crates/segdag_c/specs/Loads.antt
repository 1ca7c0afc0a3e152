-- What loading lent bytes is told to C.
use Rattle.std.specs.Prelude.{◌≡◌, ⊤, ℕ, List, [], length, Option, Some, None, Result, Ok, Err, MatchOption}
use Rattle.id_groups.specs.Name.{Name}
use Rattle.commit_graph.specs.World.{World}
use Rattle.disk_trait.specs.Images.{Told}
use Rattle.gated_log.specs.Holding.{HasPayloads, IsLogWithin, IsOnDisk}
use Rattle.gated_log.specs.Load.{LeavesOldOrFresh}
use Rattle.call_disk.specs.Awaited.{awaited}
use Rattle.call_disk.specs.Noted.{Call}
use Rattle.call_disk.specs.Performed.{MayPerform, Performs, Stops}
use Rattle.batch_codec.specs.Payload.{Payload}
use Rattle.change_rules.specs.Holding.{HoldAs}
use Rattle.change_rules.specs.Standard.{standard}
use Rattle.change_rules.specs.Unlawful.{IsNoLog}
use Rattle.step_rules.specs.State.{start}
use Rattle.dag_store.specs.Kept.{PlainStore}
use Rattle.dag_store.specs.Stands.{Stands}
use Rattle.dag_store.specs.declared.replies.LoadFault.{LoadFault}
use Rattle.dag_store.specs.declared.replies.LoadFault.TheVariants as faults
use Rattle.segdag_c.specs.declared.codes.Failure.{Failure}
use Rattle.segdag_c.specs.declared.codes.Failure.TheVariants.{Argument, Disk, NoLog, Memory}
use Rattle.segdag_c.specs.declared.held.Held.{Held}
use Rattle.segdag_c.specs.Handles.{code_of}

-- why a log isn't loaded, as C is told it
abbrev pub load_failure : LoadFault → Failure
load_failure (faults.Frame at) = NoLog
load_failure (faults.TooLarge size) = NoLog
load_failure (faults.Batch k) = NoLog
load_failure (faults.Disk fault) = Disk
load_failure faults.Memory = Memory

-- The store is that of the log that these bytes are, with room for so many names of mirrors: it has its payloads, and stands for the start of a run over each
-- world that they hold.
pub record IsOpened (bytes : List ℕ) (cache : ℕ) (store : PlainStore) : Type 0 where
  pub log : IsLogWithin standard.log store.log.payloads bytes
  pub stands : (payloads : List Payload) (w : World Name) → HoldAs standard.log bytes payloads w → Stands (length payloads) store (start w payloads)
  pub cache_is : store.cache ≡ record { entries = []; capacity = cache }
  pub lawful : ¬ (IsNoLog standard.log bytes)

-- The disk may perform the calls, in order. Where it stops at any moment, also within a call or at one that fails, it leaves at each moment what
-- it might have left before, or a file of at most one byte where there was one. Where it performs all of them the store's payloads are sure, and
-- it has the store's log.
pub record Settles (store : PlainStore) (calls : List Call) (disk : Told) : Type 0 where
  pub may : MayPerform calls disk
  pub stopped : (new : Told) → Stops calls disk new → LeavesOldOrFresh disk new
  pub whole : (new : Told) → Performs calls disk new → HasPayloads store.limits.log new store.log.payloads × IsOnDisk store.log new

-- of a disk that has the lent bytes
abbrev pub LoadNotes : List ℕ → PlainStore → List Call → Told → Type 0
LoadNotes bytes store calls disk = disk.bytes ≡ bytes → Settles store calls disk

-- why it isn't loaded: where it is said that the bytes are no log, they are none, and hold no world
abbrev pub IsRightly : List ℕ → Failure → Type 0
IsRightly bytes NoLog = IsNoLog standard.log bytes × ((payloads : List Payload) (w : World Name) → ¬ (HoldAs standard.log bytes payloads w))
IsRightly bytes Disk = ⊤
IsRightly bytes Memory = ⊤
IsRightly bytes failure = ⊥

-- such a store is held, beside no mirrors, and this is noted for a disk that has the bytes
abbrev pub HoldsOpened : List ℕ → ℕ → Told → Held → Type 0
HoldsOpened bytes cache disk held =
    MatchOption held.store ⊥ (λ store. IsOpened bytes cache store × LoadNotes bytes store (awaited held.log) disk) × (held.mirrors.list.items ≡ [])

-- What comes of a load where nothing is held: such a log is open; or none is, for its cause.
abbrev pub LoadCame : List ℕ → ℕ → Told → Option Held → Result (Unit {0}) Failure → Type 0
LoadCame bytes cache disk new (Ok done) = MatchOption new ⊥ (λ held. HoldsOpened bytes cache disk held)
LoadCame bytes cache disk new (Err Argument) = (cache ≡ 0) × (new ≡ None)
LoadCame bytes cache disk new (Err failure) = IsRightly bytes failure × (new ≡ None)

-- where a log is open, it stays as it was
abbrev pub SlotLoads : Option Held → List ℕ → ℕ → Told → Option Held → ℕ → Type 0
SlotLoads old bytes cache disk new code =
    MatchOption old ((answer : Result (Unit {0}) Failure) × (code ≡ code_of answer) × LoadCame bytes cache disk new answer) (λ held. (code ≡ 18) × (new ≡ Some held))
