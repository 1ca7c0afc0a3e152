-- How a flush and a strip end, for the state and for the disk.
use Rattle.std.specs.Prelude.{◌≡◌, ◌≤◌, ◌+◌, ℕ, List, [], ◌∷◌, ◌++◌, Option, Some, None, ⊤, length}
use Rattle.id_groups.specs.Name.{Name}
use Rattle.commit_graph.specs.World.{World}
use Rattle.disk_trait.specs.Images.{Told, moment_of}
use Rattle.batch_codec.specs.Payload.{Payload}
use Rattle.gated_log.specs.Holding.{HasPayloads, IsOnDisk, KeepsOldOrNew}
use Rattle.change_rules.specs.Change.{text_of, flush_change}
use Rattle.remote_rules.specs.Mirror.{Mirror}
use Rattle.step_rules.specs.declared.Refusal.{Refusal}
use Rattle.step_rules.specs.State.{State, Stored, worlds}
use Rattle.step_rules.specs.Verb.{Verb, Flush, Strip}
use Rattle.step_rules.specs.Reply.{Reply, Flushed as IsFlushed, Stripped as IsStripped, Refused as IsRefusal}
use Rattle.step_rules.specs.Worlds.{flush_of, after_flush}
use Rattle.step_rules.specs.Step.{CommandStep}
use Rattle.dag_store.specs.declared.replies.Changed.{Changed}
use Rattle.dag_store.specs.declared.replies.Changed.TheVariants.{Done, Refused, Disk}
use Rattle.dag_store.specs.Kept.{PlainStore}
use Rattle.dag_store.specs.Stands.{Stands}
use Rattle.dag_store.specs.Steps.{ChangesOnly, Leads}
use Rattle.store_plans.specs.Changes.{strip_of, HasRoom}

-- the state after the flush
abbrev pub flush_end : Stored → ℕ → List Name → Stored
flush_end st s heads = after_flush st s (flush_of st s heads)

-- the change to the new world
abbrev pub change_of : Stored → World Name → Payload
change_of st new = flush_change st.stored new

-- The new world is stored, which is another one, by the payload of the change, of these bytes.
pub record StoresBy (st : Stored) (s : ℕ) (new : World Name) (payload : List ℕ) : Type 0 where
  pub past : (after_flush st s new).past ≡ worlds st
  pub payloads : (after_flush st s new).payloads ≡ st.payloads ++ change_of st new ∷ []
  pub text : payload ≡ text_of (change_of st new)

-- nothing is stored: where a clock is given, a payload is
abbrev pub Stores : Option ℕ → Stored → ℕ → World Name → List ℕ → Type 0
Stores None st s new payload = ((after_flush st s new).past ≡ st.past) × ((after_flush st s new).payloads ≡ st.payloads)
Stores (Some clock) st s new payload = StoresBy st s new payload

-- What a command that makes the stored world a new one answers for a state that the store stands for: the step's reply, which tells
-- the sizes, and a store that stands for the state after it; or the refusal, and the store as it was; or, at a fault of the disk, the
-- store is gone, and the payload is the one of the step that was to be taken.
abbrev pub ChangeStep : ℕ → PlainStore → State → ℕ → Verb → (ℕ → ℕ → Reply) → World Name → List Mirror → List ℕ → Changed → Type 0
ChangeStep began old st s verb sizes new left payload (Done store counts clock) =
    Leads began old.limits st s verb (sizes counts.master counts.others) store left × Stands began store (after_flush st.store s new) × Stores clock st.store s new payload
ChangeStep began old st s verb sizes new left payload (Refused same refusal) = Leads began old.limits st s verb (IsRefusal refusal) same left
ChangeStep began old st s verb sizes new left payload (Disk fault) =
    (next : State) × CommandStep old.limits st s verb (sizes (length new.master) (length new.others)) next
    × (next.store ≡ after_flush st.store s new) × (next.outside.mirrors ≡ left) × StoresBy st.store s new payload

-- what a flush answers, and a strip
abbrev pub FlushStep : ℕ → PlainStore → State → ℕ → List Name → List Mirror → List ℕ → Changed → Type 0
FlushStep began old st s heads = ChangeStep began old st s (Flush heads) IsFlushed (flush_of st.store s heads)

abbrev pub StripStep : ℕ → PlainStore → State → ℕ → List Name → List Mirror → List ℕ → Changed → Type 0
StripStep began old st s names = ChangeStep began old st s (Strip names) IsStripped (strip_of st.store names)

-- why it is refused, if it is
abbrev pub refused_flush : Changed → Option Refusal
refused_flush (Refused same refusal) = Some refusal
refused_flush _ = None

-- what is sure once the payload is stored
pub record HasStored (kept : PlainStore) (payload : List ℕ) (new : PlainStore) (clock : ℕ) (a b : Told) : Type 0 where
  pub now : clock ≡ moment_of b
  pub calls : clock ≡ moment_of a + 8
  pub since : KeepsOldOrNew kept.log payload a b
  pub payloads : HasPayloads kept.limits.log b (kept.log.payloads ++ payload ∷ [])
  pub on_disk : IsOnDisk new.log b

-- how a fault of the disk leaves it: the payload is stored, or isn't, after four calls at most
pub record CutShort (kept : PlainStore) (payload : List ℕ) (a b : Told) : Type 0 where
  pub calls : moment_of b ≤ moment_of a + 8
  pub since : KeepsOldOrNew kept.log payload a b

-- how it leaves a disk: as it was where nothing was written
abbrev pub ChangeLeaves : PlainStore → List ℕ → Changed → Told → Told → Type 0
ChangeLeaves kept payload (Done new counts (Some clock)) a b = HasStored kept payload new clock a b
ChangeLeaves kept payload (Done new counts None) a b = b ≡ a
ChangeLeaves kept payload (Refused same refusal) a b = b ≡ a
ChangeLeaves kept payload (Disk fault) a b = CutShort kept payload a b

-- only one that stores, or that a fault of the disk ends, calls the disk
abbrev pub IsQuiet : Changed → Type 0
IsQuiet (Done new counts (Some clock)) = ⊥
IsQuiet (Done new counts None) = ⊤
IsQuiet (Refused same refusal) = ⊤
IsQuiet (Disk fault) = ⊥

-- What it leaves of the store: the session alone changes, and the log where something is stored; no rows of it are told to be
-- pending. A refusal hands it back as it was, but for the log's room and the names that are kept.
abbrev pub LeavesStore : PlainStore → ℕ → Changed → Type 0
LeavesStore kept s (Done new counts (Some clock)) = ChangesOnly s (record kept { log = new.log }) new × (counts.pending ≡ 0)
LeavesStore kept s (Done new counts None) = ChangesOnly s (record kept { log = new.log }) new × HasRoom kept.log new.log × (counts.pending ≡ 0)
LeavesStore kept s (Refused same refusal) = (same ≡ record kept { log = same.log; cache = same.cache }) × HasRoom kept.log same.log
LeavesStore kept s (Disk fault) = ⊤
