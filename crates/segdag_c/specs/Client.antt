-- A client's calls of an open log, one behind another, and the run of the definition that they are.
use Rattle.std.specs.Prelude.{◌≡◌, ◌⊎◌, ⊤, ℕ, List, [], ◌∷◌, ◌++◌, Ok, MatchBool, MatchOption}
use Rattle.std.specs.List.{AllByRecursion}
use Rattle.disk_trait.specs.Images.{Told}
use Rattle.disk_trait.specs.Since.{SureSince}
use Rattle.gated_log.specs.Holding.{HasPayloads, IsLogWithin, IsOnDisk}
use Rattle.gated_log.specs.Log.{IsLog}
use Rattle.line_io.specs.Lines.{is_silent}
use Rattle.call_disk.specs.Awaited.{awaited}
use Rattle.call_disk.specs.Noted.{Call}
use Rattle.call_disk.specs.Performed.{Performs}
use Rattle.change_rules.specs.Standard.{standard}
use Rattle.remote_rules.specs.Honest.{IsSoundMirror}
use Rattle.remote_rules.specs.Mirror.{Mirror}
use Rattle.step_rules.specs.State.{State}
use Rattle.step_rules.specs.Step.{CommandStep}
use Rattle.step_rules.specs.Verb.{Verb}
use Rattle.step_rules.specs.Reply.{Reply, reply_text}
use Rattle.run_rules.specs.Run.{Step}
use Rattle.dag_store.specs.Following.{GoOn, Written, all_on, texts_of}
use Rattle.dag_store.specs.Stands.{IsAnswerable, StandsBeside}
use Rattle.dag_run.specs.Enough.{IsEnoughOn}
use Rattle.segdag_c.specs.declared.held.Held.{Held}
use Rattle.segdag_c.specs.Answers.{LineCame}
use Rattle.segdag_c.specs.Calls.{HeldDoes}
use Rattle.segdag_c.specs.Following.{MoreCame}
use Rattle.segdag_c.specs.Handles.{IsSame}
use Rattle.segdag_c.specs.Mirrors.{shown_all}
use Rattle.segdag_c.specs.Renewed.{KeepsOthers}

-- what a client did, and was told
pub data Act : Type 0 where
  -- a typed call of a session's command, with its reply
  Typed : ℕ → Verb → Reply → Act
  -- a line, with its reply's bytes; the writes and syncs that it noted were performed behind it
  Line : List ℕ → List ℕ → Act
  -- mirrors were added or given other bytes, so that they show this
  Mirrors : List Mirror → Act
  -- what another process stored was taken
  More : List Written → Act
  -- a call that told something, or wasn't tried
  Idle : Act

-- all that was noted was performed, and let go
pub record IsCleared (before after : Held) : Type 0 where
  pub calls : awaited after.log ≡ []
  pub store : after.store ≡ before.store
  pub mirrors : after.mirrors ≡ before.mirrors

-- the log that the bytes are has the payloads of these
abbrev pub IsRead : List ℕ → List Written → Type 0
IsRead bytes changes = (texts : List (List ℕ)) → IsLog bytes texts → texts ≡ texts_of changes

-- the disk has the log of what is held
abbrev pub HasLog : Held → Told → Type 0
HasLog held disk = MatchOption held.store ⊥ (λ store. IsOnDisk store.log disk)

-- What each leaves of what is held, and of the disk. What another process stored stands on it by that one's promise.
abbrev pub Happens : Act → Held → Told → Held → Told → Type 0
Happens (Typed s verb reply) before disk after new = HeldDoes before after s verb reply × (new ≡ disk)
Happens (Line line text) before disk after new =
    (mid : Held) × LineCame line disk before mid (Ok tt) × (mid.reply.taken ≡ text) × Performs (awaited mid.log) disk new × IsCleared mid after
Happens (Mirrors shown) before disk after new = (shown_all after.mirrors.list.items ≡ shown) × KeepsOthers before after × (new ≡ disk)
Happens (More changes) before disk after new = (bytes : List ℕ) × (count : ℕ) × IsRead bytes changes × MoreCame bytes count before after (Ok tt) × HasLog after new
Happens Idle before disk after new = IsSame before after × (new ≡ disk)

-- one behind another
abbrev pub Happened : Held → Told → List Act → Held → Told → Type 0
Happened before disk [] after new = (after ≡ before) × (new ≡ disk)
Happened before disk (act ∷ acts) after new = (mid : Held) × (between : Told) × Happens act before disk mid between × Happened mid between acts after new

-- ---- by the definition

abbrev pub ActStep : State → Act → State → Type 0
ActStep st (Typed s verb reply) next = CommandStep standard st s verb reply next
ActStep st (Line line text) next = MatchBool (is_silent line) ((next ≡ st) × (text ≡ [])) ((reply : Reply) × Step standard st line reply next × (text ≡ reply_text reply))
ActStep st (Mirrors shown) next = next ≡ record st { outside = record st.outside { mirrors = shown } }
ActStep st (More changes) next = next ≡ all_on st changes
ActStep st Idle next = next ≡ st

abbrev pub ActRun : State → List Act → State → Type 0
ActRun st [] last = last ≡ st
ActRun st (act ∷ acts) last = (mid : State) × ActStep st act mid × ActRun mid acts last

-- what each rests on: mirrors that are enough for it, and another process that goes on where the state is
abbrev pub IsEnoughTo : Act → State → Type 0
IsEnoughTo (Typed s verb reply) st = IsAnswerable st
IsEnoughTo (Line line text) st = IsEnoughOn line st
IsEnoughTo (Mirrors shown) st = AllByRecursion IsSoundMirror shown
IsEnoughTo (More changes) st = GoOn st changes
IsEnoughTo Idle st = ⊤

-- along each run
abbrev pub AreEnoughAlong : State → List Act → Type 0
AreEnoughAlong st [] = ⊤
AreEnoughAlong st (act ∷ acts) = IsEnoughTo act st × ((next : State) → ActStep st act next → AreEnoughAlong next acts)

-- What is held has its store, which stands for the state beside its mirrors, and nothing is left to be performed; the disk has its log.
pub record IsAt (began : ℕ) (held : Held) (disk : Told) (st : State) : Type 0 where
  pub stands : MatchOption held.store ⊥ (λ store. StandsBeside began store (shown_all held.mirrors.list.items) st)
  pub on_disk : HasLog held disk
  pub performed : awaited held.log ≡ []

-- ---- a disk that stops

-- A disk that stopped within what a line noted is as it was; or it has, at each moment since, the log of the payloads that it had or of these
-- with one more, which is the one that a disk has that performs all.
abbrev pub StopsIn : List (List ℕ) → List Call → Told → Told → Type 0
StopsIn payloads calls old new =
    (new ≡ old)
    ⊎ ((payload : List ℕ)
    × SureSince (λ moment bytes. IsLogWithin standard.log payloads bytes ⊎ IsLogWithin standard.log (payloads ++ payload ∷ []) bytes) old new
    × ((whole : Told) → Performs calls old whole → HasPayloads standard.log whole (payloads ++ payload ∷ [])))
