-- What following does to what is held.
use Rattle.std.specs.Prelude.{◌≡◌, ◌+◌, ◌<◌, ◌⊎◌, ⊤, ℕ, List, None, Some, Result, Ok, Err, MatchOption, length}
use Rattle.gated_log.specs.Held.{log_bytes}
use Rattle.gated_log.specs.Log.{IsDamaged, IsLog}
use Rattle.change_rules.specs.Standard.{standard}
use Rattle.remote_rules.specs.Mirror.{Mirror}
use Rattle.step_rules.specs.State.{State}
use Rattle.dag_store.specs.Following.{FollowsTo, GoOn, Takes, Written, texts_of}
use Rattle.dag_store.specs.Kept.{PlainStore}
use Rattle.dag_store.specs.Stands.{StandsBeside}
use Rattle.dag_store.specs.declared.following.FollowFault.{FollowFault}
use Rattle.dag_store.specs.declared.following.FollowFault.TheVariants as follows
use Rattle.dag_store.specs.declared.following.Followed.{Followed}
use Rattle.dag_store.specs.declared.following.Followed.TheVariants as ends
use Rattle.segdag_c.specs.declared.codes.Failure.{Failure}
use Rattle.segdag_c.specs.declared.codes.Failure.TheVariants.{Disk, Memory, NoLog}
use Rattle.segdag_c.specs.declared.held.Held.{Held}
use Rattle.segdag_c.specs.Handles.{IsSame}
use Rattle.segdag_c.specs.Mirrors.{shown_all}

-- why C is told that a payload isn't taken
abbrev pub follow_failure : FollowFault → Failure
follow_failure follows.Unlawful = NoLog
follow_failure follows.Full = NoLog
follow_failure follows.Memory = Memory

-- the store that following leaves, how many of the payloads it took, and what is told of it
abbrev pub followed_store : Followed → PlainStore
followed_store (ends.Done next) = next
followed_store (ends.Refused same k fault) = same

abbrev pub followed_count : List (List ℕ) → Followed → ℕ
followed_count texts (ends.Done next) = length texts
followed_count texts (ends.Refused same k fault) = k

abbrev pub followed_answer : Followed → Result (Unit {0}) Failure
followed_answer (ends.Done next) = Ok tt
followed_answer (ends.Refused same k fault) = Err (follow_failure fault)

-- The store took payloads of the log that these bytes are: all of them, or those before one that is refused with its cause. It stands for each
-- state that it stood for, gone on by what another process has stored with those that were taken.
abbrev pub StoreFollows : List Mirror → PlainStore → List ℕ → List (List ℕ) → Followed → Type 0
StoreFollows mirrors old bytes texts followed =
    IsLog bytes texts × Takes old texts followed
    × ((began : ℕ) (st : State) (changes : List Written) → StandsBeside began old mirrors st → texts ≡ texts_of changes → GoOn st changes → FollowsTo began mirrors st changes followed)

-- So did the open log's, and nothing else changed. The count is how many were taken.
abbrev pub HeldFollows : Held → PlainStore → List ℕ → ℕ → Held → Result (Unit {0}) Failure → Type 0
HeldFollows before old bytes count after answer =
    (texts : List (List ℕ)) × (followed : Followed) × StoreFollows (shown_all before.mirrors.list.items) old bytes texts followed
    × (after.store ≡ Some (followed_store followed)) × (count ≡ followed_count texts followed) × (answer ≡ followed_answer followed)
    × (after.log ≡ before.log) × (after.mirrors ≡ before.mirrors) × (after.reply ≡ before.reply) × (after.names ≡ before.names)

-- Why the bytes aren't read: they are no log, or none of an open log's size; or there is no memory.
abbrev pub IsNoMore : List ℕ → Failure → Type 0
IsNoMore bytes NoLog = (standard.log < length bytes) ⊎ ((at : ℕ) × IsDamaged bytes at)
IsNoMore bytes Memory = ⊤
IsNoMore bytes failure = ⊥

-- Why nothing was tried: that, or the store is gone.
abbrev pub IsUnread : Held → List ℕ → Result (Unit {0}) Failure → Type 0
IsUnread before bytes (Ok done) = ⊥
IsUnread before bytes (Err Disk) = before.store ≡ None
IsUnread before bytes (Err failure) = IsNoMore bytes failure

-- what comes of more bytes
abbrev pub MoreCame : List ℕ → ℕ → Held → Held → Result (Unit {0}) Failure → Type 0
MoreCame bytes count before after answer =
    (IsUnread before bytes answer × (count ≡ 0) × IsSame before after)
    ⊎ MatchOption before.store ⊥ (λ old. HeldFollows before old bytes count after answer)

-- of the place of the closed gate
abbrev pub EndCame : Held → Held → Result ℕ Failure → Type 0
EndCame before after (Ok at) = MatchOption before.store ⊥ (λ store. at + 1 ≡ length (log_bytes store.log)) × IsSame before after
EndCame before after (Err Disk) = (before.store ≡ None) × IsSame before after
EndCame before after (Err failure) = ⊥
