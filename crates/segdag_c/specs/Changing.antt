-- What comes of a change of the stored world that is asked for without a text: a flush, a strip, a clone or a pull.
use Rattle.std.specs.Prelude.{◌≡◌, ◌≤◌, ◌⊎◌, ◌++◌, ◌%◌, ⊤, ℕ, List, [], Option, Some, None, Result, Ok, Err, IfSome, MatchOption, length}
use Rattle.disk_trait.specs.Images.{Told}
use Rattle.gated_log.specs.Held.{log_bytes}
use Rattle.gated_log.specs.Holding.{IsOnDisk}
use Rattle.id_groups.specs.Name.{Name}
use Rattle.remote_rules.specs.Mirror.{Mirror}
use Rattle.call_disk.specs.Awaited.{awaited}
use Rattle.call_disk.specs.Noted.{Call}
use Rattle.call_disk.specs.Performed.{HonestDisk}
use Rattle.change_rules.specs.Standard.{standard}
use Rattle.step_rules.specs.State.{State, Stored}
use Rattle.step_rules.specs.Verb.{Verb, Flush, Strip}
use Rattle.dag_store.specs.Asks.{AskAnswers, AskStep, MayChange}
use Rattle.dag_store.specs.Changes.{LeavesStore}
use Rattle.dag_store.specs.Kept.{PlainStore}
use Rattle.dag_store.specs.Stands.{Stands, StandsBeside}
use Rattle.dag_store.specs.declared.replies.Changed.{Changed}
use Rattle.dag_store.specs.declared.replies.Changed.TheVariants as changed
use Rattle.dag_store.specs.declared.replies.Counts.{Counts}
use Rattle.segdag_c.specs.declared.codes.Failure.{Failure}
use Rattle.segdag_c.specs.declared.codes.Failure.TheVariants.{Argument, Disk, Memory, Refused}
use Rattle.segdag_c.specs.declared.held.Held.{Held}
use Rattle.segdag_c.specs.Handles.{Gives, IsSame}
use Rattle.segdag_c.specs.Mirrors.{shown_all}
use Rattle.segdag_c.specs.Names.{AreJoined}
use Rattle.segdag_c.specs.Stores.{Leaves}

-- The calls that were noted leave the change on a disk that has the store's log. A refusal has none.
abbrev pub ChangeNotes : PlainStore → List ℕ → Changed → List Call → Told → Type 0
ChangeNotes old payload (changed.Done next counts clock) calls disk = Leaves old payload clock next calls disk
ChangeNotes old payload (changed.Refused same refusal) calls disk = calls ≡ []
ChangeNotes old payload (changed.Disk fault) calls disk = ⊤

-- The change was done from the store, for each state that it stands for beside the first mirrors, and of these the last are left; what it asks
-- of mirrors it asks whatever they tell. This is said of what it noted.
pub record Changes (first : List Mirror) (old : PlainStore) (s : ℕ) (verb : Verb) (left : List Mirror) (end : Changed) (Notes : List ℕ → Type 0) : Type 0 where
  pub payload : List ℕ
  pub steps : (began : ℕ) (st : State) → StandsBeside began old first st → MayChange verb st first → AskStep began old left st s verb payload end
  pub asks : (began : ℕ) (st : Stored) → Stands began old st → AskAnswers old.limits st s (length (log_bytes old.log)) verb first left payload end
  pub leaves : LeavesStore old s end
  pub notes : Notes payload

-- over a disk that has the store's log, where one is spoken of
abbrev pub ChangesOn : List Mirror → PlainStore → ℕ → Verb → List Mirror → List Call → Changed → Option HonestDisk → Type 0
ChangesOn first old s verb left calls end disk = Changes first old s verb left end (λ payload. IfSome disk (λ (d : HonestDisk). ChangeNotes old payload end calls d.told))

-- over any disk, where it has the store's log
abbrev pub ChangesOver : List Mirror → PlainStore → ℕ → Verb → List Mirror → List Call → Changed → Told → Type 0
ChangesOver first old s verb left calls end disk = Changes first old s verb left end (λ payload. IsOnDisk old.log disk → ChangeNotes old payload end calls disk)

-- What is kept of it: the next store, and its calls behind those that were to be performed; or no store, for it stopped, or there was no memory to
-- keep its calls. A refusal keeps the store that is handed back.
abbrev pub Keeps : List Call → Changed → List Call → Held → Result Counts Failure → Type 0
Keeps noted (changed.Done next counts clock) calls after (Ok told) = (told ≡ counts) × (after.store ≡ Some next) × (awaited after.log ≡ noted ++ calls)
Keeps noted (changed.Done next counts clock) calls after (Err Disk) = (calls ≡ [] → ⊥) × (after.store ≡ None) × (awaited after.log ≡ noted)
Keeps noted (changed.Refused same refusal) calls after (Err (Refused told)) = (told ≡ refusal) × (after.store ≡ Some same) × (awaited after.log ≡ noted)
Keeps noted (changed.Disk fault) calls after (Err Disk) = (after.store ≡ None) × (awaited after.log ≡ noted)
Keeps noted end calls after answer = ⊥

-- the last reply and the last names are as they were
pub record LeavesTold (before after : Held) : Type 0 where
  pub reply : after.reply ≡ before.reply
  pub names : after.names ≡ before.names

-- from this store of what is held
abbrev pub IsChanged : Held → PlainStore → ℕ → Verb → Told → Held → Result Counts Failure → Type 0
IsChanged before old s verb disk after answer =
    (calls : List Call) × (end : Changed)
    × ChangesOver (shown_all before.mirrors.list.items) old s verb (shown_all after.mirrors.list.items) calls end disk
    × Keeps (awaited before.log) end calls after answer × LeavesTold before after

-- What comes of a change that one of these commands asks for. An argument is wrong, or there is no memory for the names: all stays as it was.
-- 3 where the store is gone, or is gone now.
abbrev pub ChangeCame : Type 0 → (Verb → Type 0) → ℕ → Told → Held → Held → Result Counts Failure → Type 0
ChangeCame Wrong IsAsked s disk before after (Err Argument) = Wrong × IsSame before after
ChangeCame Wrong IsAsked s disk before after (Err Memory) = IsSame before after
ChangeCame Wrong IsAsked s disk before after (Err Disk) =
    MatchOption before.store (IsSame before after) (λ old. (verb : Verb) × IsAsked verb × IsChanged before old s verb disk after (Err Disk))
ChangeCame Wrong IsAsked s disk before after answer = MatchOption before.store ⊥ (λ old. (verb : Verb) × IsAsked verb × IsChanged before old s verb disk after answer)

-- no session, or bytes that are no names
abbrev pub IsNoChange : ℕ → List ℕ → Type 0
IsNoChange s bytes = (16 ≤ s) ⊎ (length bytes % 20 ≡ 0 → ⊥)

-- a command over the names that these bytes are
abbrev pub IsOver : (List Name → Verb) → List ℕ → Verb → Type 0
IsOver of_names bytes verb = (names : List Name) × AreJoined names bytes × (verb ≡ of_names names)

abbrev pub FlushCame : ℕ → List ℕ → Told → Held → Held → Result Counts Failure → Type 0
FlushCame s bytes disk before after answer = ChangeCame (IsNoChange s bytes) (IsOver Flush bytes) s disk before after answer

abbrev pub StripCame : ℕ → List ℕ → Told → Held → Held → Result Counts Failure → Type 0
StripCame s bytes disk before after answer = ChangeCame (IsNoChange s bytes ⊎ (bytes ≡ [])) (IsOver Strip bytes) s disk before after answer

abbrev pub MirrorChangeCame : Verb → ℕ → Told → Held → Held → Result Counts Failure → Type 0
MirrorChangeCame verb s disk before after answer = ChangeCame (16 ≤ s) (λ asked. asked ≡ verb) s disk before after answer

-- how many commits are in master and beside it is told, or what stood there is left
abbrev pub GivesCounts : ℕ → ℕ → ℕ → ℕ → Result Counts Failure → Type 0
GivesCounts master master_now others others_now answer = Gives (λ (c : Counts). c.master) master master_now answer × Gives (λ (c : Counts). c.others) others others_now answer

-- a store that it leaves has the program's limits
abbrev pub HasLimits : Changed → Type 0
HasLimits (changed.Done next counts clock) = next.limits ≡ standard
HasLimits (changed.Refused same refusal) = same.limits ≡ standard
HasLimits (changed.Disk fault) = ⊤
