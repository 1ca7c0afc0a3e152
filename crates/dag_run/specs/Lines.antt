-- What one line does: to a store, to the state that it stands for, to the disk and to the sink.
use Rattle.std.specs.Prelude.{◌≡◌, ◌⊎◌, ◌≤◌, ℕ, true, false, List, [], ◌∷◌, ◌++◌, Option, Some, None, Result, Ok, Err, IfOk, IfErr, take, length, map, nat_lt, ⊤}
use Rattle.std.specs.Bool.{MatchBool}
use Rattle.outside.specs.Counts.{HasCause, Rose}
use Rattle.outside.specs.Told.{TookFront, WhereTold}
use Rattle.disk_trait.specs.Images.{Told}
use Rattle.disk_trait.specs.Calls.{Goes}
use Rattle.line_io.specs.Lines.{is_silent}
use Rattle.line_io.specs.Next.{IsLine}
use Rattle.line_io.specs.declared.lines.Line.{Line}
use Rattle.batch_codec.specs.Payload.{Payload}
use Rattle.change_rules.specs.Change.{text_of}
use Rattle.remote_rules.specs.Mirror.{Mirror}
use Rattle.step_rules.specs.State.{State, Stored, worlds}
use Rattle.step_rules.specs.Verb.{Verb, Clone, Flush, Pull, Query, Strip}
use Rattle.step_rules.specs.Reply.{Reply, Dropped, Refused, reply_text}
use Rattle.step_rules.specs.declared.Refusal.TheVariants.{NoRemote}
use Rattle.step_rules.specs.Step.{CommandStep, without}
use Rattle.run_rules.specs.Run.{Step}
use Rattle.run_rules.specs.Ends.{disk_text}
use Rattle.dag_store.specs.Kept.{PlainStore}
use Rattle.dag_store.specs.Stands.{StandsBeside}
use Rattle.store_plans.specs.Changes.{HasRoom}
use Rattle.dag_store.specs.Changes.{HasStored, CutShort}
use Rattle.dag_run.specs.Enough.{HasEnough, IsEnoughFor, IsEnoughOn}
use Rattle.dag_run.specs.Stops.{IsLineStop}
use Rattle.dag_run.specs.declared.stops.Stop.{Stop}
use Rattle.dag_run.specs.declared.stops.Stop.TheVariants.{Sink, NotStored}

-- the moments after one more change, or none
abbrev pub changes_with : List ℕ → Option ℕ → List ℕ
changes_with changes None = changes
changes_with changes (Some clock) = changes ++ clock ∷ []

-- another world is stored, by one more payload, of these bytes
pub record HasChanged (st next : Stored) (payload : List ℕ) : Type 0 where
  pub change : Payload
  pub past : next.past ≡ worlds st
  pub payloads : next.payloads ≡ st.payloads ++ change ∷ []
  pub text : payload ≡ text_of change

-- where a moment is given a change was stored; else nothing was
abbrev pub Changes : Option ℕ → Stored → Stored → List ℕ → Type 0
Changes None st next payload = (next.past ≡ st.past) × (next.payloads ≡ st.payloads)
Changes (Some clock) st next payload = HasChanged st next payload

-- the line that tells of the disk was put, or a front of it where the sink failed too
abbrev pub PutsFault : Type 0 → List ℕ → List ℕ → Type 0
PutsFault SinkFailed before now = (now ≡ before ++ disk_text) ⊎ (SinkFailed × (count : ℕ) × (now ≡ before ++ take count disk_text))

-- the reply is put whole, and the store is handed back; or the sink fails in it
abbrev pub PutsReply : PlainStore → Reply → Result PlainStore Stop → List ℕ → List ℕ → Type 0
PutsReply kept reply (Ok store) before now = (store ≡ kept) × (now ≡ before ++ reply_text reply)
PutsReply kept reply (Err Sink) before now = TookFront (reply_text reply) before now
PutsReply kept reply (Err _) before now = ⊥

-- of a sink that tells so: nothing but a fault of it stops the putting
pub record PutsLine (kept : PlainStore) (reply : Reply) (taken taken_then : Option (List ℕ)) (faults faults_then : ℕ) (result : Result PlainStore Stop) : Type 0 where
  pub bytes : WhereTold taken taken_then (PutsReply kept reply result)
  pub same : IfOk result (λ next. next ≡ kept)
  pub stop : IfErr result (λ stop. stop ≡ Sink)
  pub cause : HasCause faults faults_then result

-- How a line that gets a reply ends, of a store that stands for a state, where these replies come with these states: the reply is
-- put, and the store stands for the state, beside the mirrors that are left; or the sink fails in it; or the disk fails, and nothing is
-- told of the change.
abbrev pub Replies : Type 0 → ℕ → List Mirror → State → (Reply → State → Type 0) → List ℕ → Option ℕ → Result PlainStore Stop → List ℕ → List ℕ → Type 0
Replies SinkFailed began left st Does payload clock (Ok store) before now =
    (reply : Reply) × (next : State) × Does reply next × Changes clock st.store next.store payload × StandsBeside began store left next × (now ≡ before ++ reply_text reply)
Replies SinkFailed began left st Does payload clock (Err Sink) before now =
    (reply : Reply) × (next : State) × Does reply next × Changes clock st.store next.store payload × (left ≡ next.outside.mirrors) × TookFront (reply_text reply) before now
Replies SinkFailed began left st Does payload clock (Err NotStored) before now =
    (reply : Reply) × (next : State) × Does reply next × HasChanged st.store next.store payload × (left ≡ next.outside.mirrors) × (clock ≡ None) × PutsFault SinkFailed before now
Replies SinkFailed began left st Does payload clock (Err _) before now = ⊥

-- of a session's command beside these mirrors, of which those are left
abbrev pub CommandReplies : List Mirror → List Mirror → Type 0 → PlainStore → ℕ → Verb → List ℕ → Option ℕ → Result PlainStore Stop → List ℕ → List ℕ → Type 0
CommandReplies first left SinkFailed kept s verb payload clock result before now =
    (began : ℕ) (st : State) → StandsBeside began kept first st → IsEnoughFor verb st → Replies SinkFailed began left st (CommandStep kept.limits st s verb) payload clock result before now

-- a command that is answered by one line and leaves the disk
abbrev pub IsBrief : Verb → Type 0
IsBrief (Flush heads) = ⊥
IsBrief Clone = ⊥
IsBrief Pull = ⊥
IsBrief (Strip names) = ⊥
IsBrief (Query e) = ⊥
IsBrief _ = ⊤

-- a command that may store
abbrev pub MayStore : Verb → Type 0
MayStore (Flush heads) = ⊤
MayStore Clone = ⊤
MayStore Pull = ⊤
MayStore (Strip names) = ⊤
MayStore _ = ⊥

-- its reply comes with a state that the store stands for afterwards, beside the mirrors that are left
abbrev pub DoesBeside : List Mirror → List Mirror → PlainStore → PlainStore → ℕ → Verb → Reply → Type 0
DoesBeside first left old new s verb reply =
    (began : ℕ) (st : State) → StandsBeside began old first st → HasEnough st
    → (next : State) × CommandStep old.limits st s verb reply next × Changes None st.store next.store [] × StandsBeside began new left next

-- the mirror at this place goes, or there is none: what is told, and which mirrors are left
abbrev pub DropsAt : ℕ → List Mirror → List Mirror → Reply → Type 0
DropsAt k mirrors left reply =
    MatchBool (nat_lt k (length mirrors))
    ((reply ≡ Dropped (length (without k mirrors))) × (left ≡ without k mirrors))
    ((reply ≡ Refused NoRemote) × (left ≡ mirrors))

-- a silent line gets no reply and changes nothing
abbrev pub IsPassed : ℕ → List Mirror → State → List ℕ → Option ℕ → Result PlainStore Stop → List ℕ → List ℕ → Type 0
IsPassed began left st line clock (Ok store) before now = (is_silent line ≡ true) × (clock ≡ None) × StandsBeside began store left st × (now ≡ before)
IsPassed began left st line clock (Err _) before now = ⊥

-- what a line is told beside these mirrors, of which those are left
abbrev pub LineReplies : List Mirror → List Mirror → Type 0 → PlainStore → List ℕ → List ℕ → Option ℕ → Result PlainStore Stop → List ℕ → List ℕ → Type 0
LineReplies first left SinkFailed kept line payload clock result before now =
    (began : ℕ) (st : State) → StandsBeside began kept first st → IsEnoughOn line st
    → IsPassed began left st line clock result before now
    ⊎ ((is_silent line ≡ false) × Replies SinkFailed began left st (Step kept.limits st line) payload clock result before now)

-- the log's own limit is that of the store
abbrev pub IsLimited : PlainStore → Type 0
IsLimited kept = kept.log.limit ≡ kept.limits.log

-- the disk stays as it was, or has one change more where its moment is given
abbrev pub StoresOn : PlainStore → List ℕ → Option ℕ → Told → Told → Type 0
StoresOn kept payload None a b = b ≡ a
StoresOn kept payload (Some clock) a b = IsLimited kept × (store : PlainStore) × HasStored kept payload store clock a b

-- what the line leaves on the disk
abbrev pub LineLeaves : PlainStore → List ℕ → Option ℕ → Result PlainStore Stop → Told → Told → Type 0
LineLeaves kept payload None (Ok store) a b = (b ≡ a) × HasRoom kept.log store.log
LineLeaves kept payload (Some clock) (Ok store) a b = IsLimited kept × HasStored kept payload store clock a b
LineLeaves kept payload clock (Err Sink) a b = StoresOn kept payload clock a b
LineLeaves kept payload clock (Err NotStored) a b = IsLimited kept × CutShort kept payload a b
LineLeaves kept payload clock (Err _) a b = ⊥

-- ---- a line's step
-- all that it reaches, before and after: the log's disk, the mirrors, the sink, and the moments of changes
pub record LineSides : Type 0 where
  pub disk : Option Told
  pub disk_then : Option Told
  pub disk_faults : ℕ
  pub disk_faults_then : ℕ
  pub first : List Mirror
  pub left : List Mirror
  pub taken : Option (List ℕ)
  pub taken_then : Option (List ℕ)
  pub sink_faults : ℕ
  pub sink_faults_then : ℕ
  pub changes : List ℕ
  pub changes_then : List ℕ

abbrev pub line_sides : {D M O : Type 0} → (D → Option Told) → (D → ℕ) → (M → Mirror) → (O → Option (List ℕ)) → (O → ℕ) → D → D → List M → List M → O → O → List ℕ → List ℕ → LineSides
line_sides told disk_faults shown taken sink_faults disk disk_then mirrors mirrors_then sink sink_then changes changes_then = record {
  disk = told disk;
  disk_then = told disk_then;
  disk_faults = disk_faults disk;
  disk_faults_then = disk_faults disk_then;
  first = map shown mirrors;
  left = map shown mirrors_then;
  taken = taken sink;
  taken_then = taken sink_then;
  sink_faults = sink_faults sink;
  sink_faults_then = sink_faults sink_then;
  changes = changes;
  changes_then = changes_then;
}

-- The limits stay. It stops for a fault of the disk in a change or one of the sink alone, and no count falls.
pub record EndsLine (kept : PlainStore) (x : LineSides) (result : Result PlainStore Stop) : Type 0 where
  pub limits : IfOk result (λ next. next.limits ≡ kept.limits)
  pub stop : IfErr result IsLineStop
  pub disk_failed : result ≡ Err NotStored → Rose x.disk_faults x.disk_faults_then
  pub sink_failed : result ≡ Err Sink → Rose x.sink_faults x.sink_faults_then
  pub disk_later : x.disk_faults ≤ x.disk_faults_then
  pub sink_later : x.sink_faults ≤ x.sink_faults_then

-- What a step does that ends so: one payload is stored and its moment noted, or nothing is; and what is told says this of it.
pub record DoesLine (kept : PlainStore) (x : LineSides) (Tells : LineSides → List ℕ → Option ℕ → Result PlainStore Stop → List ℕ → List ℕ → Type 0) (result : Result PlainStore Stop) : Type 0 where
  pub payload : List ℕ
  pub clock : Option ℕ
  pub noted : x.changes_then ≡ changes_with x.changes clock
  pub leaves : Goes (LineLeaves kept payload clock result) x.disk x.disk_then
  pub tells : WhereTold x.taken x.taken_then (Tells x payload clock result)
  pub ends : EndsLine kept x result

-- what is told of a session's command, and of a line
abbrev pub TellsCommand : PlainStore → ℕ → Verb → LineSides → List ℕ → Option ℕ → Result PlainStore Stop → List ℕ → List ℕ → Type 0
TellsCommand kept s verb x payload clock result before now = CommandReplies x.first x.left (Rose x.sink_faults x.sink_faults_then) kept s verb payload clock result before now

abbrev pub TellsLine : PlainStore → List ℕ → LineSides → List ℕ → Option ℕ → Result PlainStore Stop → List ℕ → List ℕ → Type 0
TellsLine kept line x payload clock result before now = LineReplies x.first x.left (Rose x.sink_faults x.sink_faults_then) kept line payload clock result before now

-- of what was read, in this buffer
abbrev pub TellsRead : PlainStore → Line → List ℕ → LineSides → List ℕ → Option ℕ → Result PlainStore Stop → List ℕ → List ℕ → Type 0
TellsRead kept kind text x payload clock result before now = (line : List ℕ) → IsLine kind text line → TellsLine kept line x payload clock result before now
