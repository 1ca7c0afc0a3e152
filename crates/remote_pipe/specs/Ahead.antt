-- What is asked ahead over a line: names whose request is put before the answers to others are taken.
use Rattle.std.specs.Prelude.{◌≡◌, ◌<◌, ◌≤◌, ◌^◌, ◌⊎◌, ℕ, Bool, true, false, List, [], ◌∷◌, ◌++◌, length, take, Option, Some, None, Result, Ok, Err, ⊤}
use Rattle.std.specs.Int.{w32, to_be_bytes}
use Rattle.outside.specs.Counts.{Rose}
use Rattle.outside.specs.Told.{WhereTold}
use Rattle.id_groups.specs.Name.{Name}
use Rattle.remote_rules.specs.Mirror.{Mirror}
use Rattle.remote_trait.specs.Runs.{Run}
use Rattle.remote_trait.specs.declared.fault.RemoteFault.{RemoteFault}
use Rattle.remote_trait.specs.declared.fault.RemoteFault.TheVariants as remote
use Rattle.remote_serve.specs.Frames.{frame}
use Rattle.remote_serve.specs.Requests.{Request, ToNames, IsRequest}
use Rattle.remote_serve.specs.Answers.{Answer, Named, answer_bytes, frame_of, longest_answer, IsAnswer, LeftBy, Allows}
use Rattle.remote_pipe.specs.Answering.{Answers, Fits, IsAnswerLength, IsRefusal}
use Rattle.remote_pipe.specs.Peer.{Peer, request_frame, PutsWhole, PutsFront}
use Rattle.remote_pipe.specs.Exchange.{Took, HasAnswer}
use Rattle.remote_pipe.specs.Line.{PlainLine, Keeps, HasFaultCause, CountsOne}
use Rattle.remote_pipe.specs.Remote.{AsksNames}
use Rattle.remote_pipe.specs.declared.fault.PipeFault.{PipeFault}
use Rattle.remote_pipe.specs.declared.fault.PipeFault.TheVariants.{NotPut, NotTaken, Ended, BadLength, NoAnswer, Memory}

-- the most that is asked ahead
abbrev pub most_ahead : ℕ
most_ahead = 64

-- the request for the names of a run
abbrev pub request_of : Run → Request
request_of run = ToNames run.from run.back run.count

-- ---- a request that is put ahead

-- These bytes were put whole, and nothing was taken; or they weren't, and no more is asked, which the next call counts.
abbrev pub PutsAhead : List ℕ → PlainLine → PlainLine → Bool → Type 0
PutsAhead asked before now true =
    Keeps before now × (now.stopped ≡ before.stopped) × (now.faults ≡ before.faults) × WhereTold before.peer now.peer (PutsWhole asked)
PutsAhead asked before now false =
    Keeps before now × (now.stopped ≡ Some NotPut) × (now.faults ≡ before.faults) × Rose before.put_faults now.put_faults × WhereTold before.peer now.peer (PutsFront asked)

-- the frame of a run was put
abbrev pub AsksAhead : Run → PlainLine → PlainLine → Type 0
AsksAhead run before now = IsRequest (request_of run) × (before.stopped ≡ None) × PutsAhead (request_frame (request_of run)) before now true

-- it wasn't put whole, and no more is asked
abbrev pub BreaksAt : Run → PlainLine → PlainLine → Type 0
BreaksAt run before now = IsRequest (request_of run) × (before.stopped ≡ None) × PutsAhead (request_frame (request_of run)) before now false

-- the frames of these runs were put, one behind another
abbrev pub AsksBehind : List Run → PlainLine → PlainLine → Type 0
AsksBehind [] before now = now ≡ before
AsksBehind (run ∷ more) before now = (mid : PlainLine) × AsksAhead run before mid × AsksBehind more mid now

-- Of the runs that are told the first are asked ahead, as far as there is room, and memory, and one is a request: their frames are put in order,
-- and they wait behind those that wait already. Or the frame behind these isn't put whole, and no more is asked; its run waits too.
pub record PutsAll (runs queue : List Run) (before : PlainLine) (later : List Run) (now : PlainLine) : Type 0 where
  pub put : List Run
  pub rest : List Run
  pub parts : runs ≡ put ++ rest
  pub mid : PlainLine
  pub asks : AsksBehind put before mid
  pub end : ((now ≡ mid) × (later ≡ queue ++ put)) ⊎ ((run : Run) × (more : List Run) × (rest ≡ run ∷ more) × BreaksAt run mid now × (later ≡ (queue ++ put) ++ run ∷ []))

-- ---- an answer that is taken to what was asked ahead

-- nothing was put, and one frame was taken, which has this answer
pub record TookAhead (answer : Answer) (before now : PlainLine) : Type 0 where
  pub is_answer : IsAnswer answer
  pub short : length (answer_bytes answer) ≤ longest_answer
  pub took : WhereTold before.peer now.peer (Took (frame_of answer))

-- Why no answer to this request was taken: before a frame was whole the link failed, or all that came had ended; or a length came that no
-- answer has, behind which nothing was taken; or the body in the frame is no answer to it; or memory was wanting.
abbrev pub StopsAhead : PipeFault → Request → Peer → Peer → Type 0
StopsAhead NotPut request before now = ⊥
StopsAhead NotTaken request before now = (came : List ℕ) × Took came before now × (HasAnswer came → ⊥)
StopsAhead Ended request before now = (came : List ℕ) × Took came before now × (HasAnswer came → ⊥) × (now.left ≡ [])
StopsAhead BadLength request before now = (len : ℕ) × (len < 2 ^ 32) × (IsAnswerLength len → ⊥) × Took (to_be_bytes w32 len) before now
StopsAhead NoAnswer request before now = (body : List ℕ) × Took (frame body) before now × IsAnswerLength (length body) × (Answers request body → ⊥)
StopsAhead Memory request before now = (came : List ℕ) × Took came before now

-- why nothing more is asked; once that is so nothing is put and nothing is taken
abbrev pub Stopping : Request → PlainLine → PlainLine → Option PipeFault → Option PipeFault → Type 0
Stopping request before now (Some fault) stopped = (stopped ≡ Some fault) × (now.peer ≡ before.peer)
Stopping request before now None (Some fault) = HasFaultCause fault before now × WhereTold before.peer now.peer (StopsAhead fault request)
Stopping request before now None None = ⊥

-- why no names came of an answer: what stands in place of one was taken, or nothing more is asked
abbrev pub FailingAhead : Request → PlainLine → PlainLine → Option PipeFault → Option PipeFault → Type 0
FailingAhead request before now (Some fault) stopped = Stopping request before now (Some fault) stopped
FailingAhead request before now None (Some fault) = Stopping request before now None (Some fault)
FailingAhead request before now None None = (refusal : Answer) × IsRefusal refusal × TookAhead refusal before now

-- memory was wanting within the frame, and no more is asked
abbrev pub WantingAhead : Request → PlainLine → PlainLine → Type 0
WantingAhead request before now =
    (before.stopped ≡ None) × (now.stopped ≡ Some Memory) × (now.faults ≡ before.faults) × WhereTold before.peer now.peer (StopsAhead Memory request)

-- the names of the answer to a request that was put ahead, or why there are none
abbrev pub EndsAhead : Request → List Name → PlainLine → PlainLine → Result ℕ RemoteFault → Type 0
EndsAhead request out before now (Ok n) =
    (before.stopped ≡ None) × (now.stopped ≡ None) × (now.faults ≡ before.faults) × Fits request (Named (take n out)) × TookAhead (Named (take n out)) before now
EndsAhead request out before now (Err remote.Failed) = CountsOne before now × FailingAhead request before now before.stopped now.stopped
EndsAhead request out before now (Err remote.Memory) = WantingAhead request before now

-- nothing is put, and the answer to a request that was put ahead is taken, whose names stand at the front of these
pub record TakesAhead (request : Request) (out : List Name) (before now : PlainLine) (result : Result ℕ RemoteFault) : Type 0 where
  pub keeps : Keeps before now
  pub ends : EndsAhead request out before now result

-- an answer to it, or what stands in place of one, was taken and thrown away, or none was
abbrev pub EndsPass : Request → PlainLine → PlainLine → Result Unit RemoteFault → Type 0
EndsPass request before now (Ok done) =
    (before.stopped ≡ None) × (now.stopped ≡ None) × (now.faults ≡ before.faults) × (answer : Answer) × (Fits request answer ⊎ IsRefusal answer) × TookAhead answer before now
EndsPass request before now (Err remote.Failed) = CountsOne before now × Stopping request before now before.stopped now.stopped
EndsPass request before now (Err remote.Memory) = WantingAhead request before now

pub record Passes (request : Request) (before now : PlainLine) (result : Result Unit RemoteFault) : Type 0 where
  pub keeps : Keeps before now
  pub ends : EndsPass request before now result

-- ---- the calls

-- The answers to all that was asked ahead are taken and thrown away, in order, and behind them it comes to this; or one of them isn't taken,
-- and the call fails as that does.
abbrev pub PassesTo : {T : Type 0} → (PlainLine → PlainLine → Result T RemoteFault → Type 0) → List Run → PlainLine → List Run → PlainLine → Result T RemoteFault → Type 0
PassesTo P [] before later now result = (later ≡ []) × P before now result
PassesTo P (run ∷ more) before later now result =
    ((mid : PlainLine) × Passes (request_of run) before mid (Ok tt) × PassesTo P more mid later now result)
    ⊎ ((fault : RemoteFault) × (result ≡ Err fault) × (later ≡ more) × Passes (request_of run) before now (Err fault))

-- it comes to nothing more
abbrev pub Done : PlainLine → PlainLine → Result Unit RemoteFault → Type 0
Done before now result = (now ≡ before) × (result ≡ Ok tt)

-- the run is of these names, and one request may be for them
abbrev pub IsWanted : Name → ℕ → ℕ → Run → Type 0
IsWanted x back room run = IsRequest (ToNames x back room) × (run ≡ record { from = x; back = back; count = room })

-- these names were asked for ahead, before all else that was
abbrev pub IsNext : Name → ℕ → ℕ → List Run → Type 0
IsNext x back room [] = ⊥
IsNext x back room (run ∷ more) = IsWanted x back room run

-- Names that were asked for ahead, before all else: their answer is taken, and nothing is put. Others are asked for behind all that was asked
-- ahead, whose answers are thrown away.
abbrev pub NamesAhead : Name → ℕ → ℕ → List Run → PlainLine → List Run → PlainLine → Result ℕ RemoteFault → List Name → Type 0
NamesAhead x back room queue before later now result out =
    ((run : Run) × (queue ≡ run ∷ later) × IsWanted x back room run × TakesAhead (ToNames x back room) out before now result)
    ⊎ ((IsNext x back room queue → ⊥) × PassesTo (λ mid end told. AsksNames x back room mid end told out) queue before later now result)

-- ---- over who serves a mirror

-- an answer that a mirror allowed to a run when that was asked, which told then what this one tells
pub record WasAllowed (m : Mirror) (run : Run) (answer : Answer) : Type 0 where
  pub before : Mirror
  pub after : Mirror
  pub is : IsAnswer answer
  pub leaves : LeftBy (request_of run) before after
  pub allows : Allows before after (request_of run) answer
  pub master : before.master ≡ m.master
  pub cloned : before.cloned ≡ m.cloned
  pub settled : before.settled ≡ m.settled

-- what is still to come are answers that the mirror allowed, one for each of the runs, in order
abbrev pub AreToCome : Mirror → List Run → List ℕ → Type 0
AreToCome m [] left = left ≡ []
AreToCome m (run ∷ more) left = (answer : Answer) × (behind : List ℕ) × WasAllowed m run answer × (left ≡ frame_of answer ++ behind) × AreToCome m more behind

abbrev pub AwaitsOf : List Run → List ℕ → Option Mirror → Type 0
AwaitsOf runs left None = ⊤
AwaitsOf runs left (Some m) = AreToCome m runs left

-- of a mirror that is served nothing is still to come but its answers to what was asked ahead
abbrev pub Awaits : List Run → Option Peer → Type 0
Awaits runs None = ⊤
Awaits runs (Some peer) = AwaitsOf runs peer.left peer.mirror
