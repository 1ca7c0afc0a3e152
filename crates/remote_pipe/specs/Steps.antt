-- The parts of a call, in the words of the code.
use Rattle.std.specs.Prelude.{◌≡◌, ◌<◌, ◌≤◌, ◌+◌, ◌^◌, ◌⊎◌, ℕ, Bool, true, false, List, [], ◌∷◌, ◌++◌, length, take, slice_index_or, Option, Some, None, Result, Ok, Err, Vec, ⊤}
use Rattle.std.specs.Int.{w32, to_be_bytes}
use Rattle.std.specs.declared.alloc.AllocError.{AllocError}
use Rattle.std.specs.declared.alloc.Global.{Global}
use Rattle.outside.specs.Told.{WhereTold}
use Rattle.remote_trait.specs.declared.fault.RemoteFault.{RemoteFault}
use Rattle.remote_trait.specs.declared.fault.RemoteFault.TheVariants as remote
use Rattle.remote_serve.specs.Requests.{Request, ToNames, ToPath}
use Rattle.remote_serve.specs.Answers.{Answer, Named, Led}
use Rattle.id_groups.specs.Name.{Name}
use Rattle.remote_rules.specs.Known.{Path}
use Rattle.remote_serve.specs.Frames.{frame}
use Rattle.remote_pipe.specs.Answering.{Fits, IsRefusal, IsAnswerLength}
use Rattle.remote_pipe.specs.Reading.{answer_at}
use Rattle.remote_pipe.specs.Peer.{Peer}
use Rattle.remote_pipe.specs.Exchange.{Asked, Took, HasAnswer, StopsAs}
use Rattle.remote_pipe.specs.Line.{PlainLine, HasFaultCause, CountsOne}
use Rattle.remote_pipe.specs.Ahead.{AsksAhead, BreaksAt}
use Rattle.remote_trait.specs.Runs.{Run}
use Rattle.remote_pipe.specs.declared.fault.PipeFault.{PipeFault}
use Rattle.remote_pipe.specs.declared.fault.PipeFault.TheVariants.{NotTaken, Ended, BadLength, NoAnswer, Memory}
use Rattle.remote_pipe.specs.declared.reading.ReadFault.{ReadFault}
use Rattle.remote_pipe.specs.declared.reading.ReadFault.TheVariants as read

-- so many bytes were taken, or fewer
abbrev pub TakesExactly : Result Unit PipeFault → List ℕ → Peer → Peer → Type 0
TakesExactly (Ok done) out before now = Took out before now
TakesExactly (Err NotTaken) out before now = (came : List ℕ) × Took came before now × (length came < length out)
TakesExactly (Err Ended) out before now = (came : List ℕ) × Took came before now × (length came < length out) × (now.left ≡ [])
TakesExactly (Err _) out before now = ⊥

-- a body of so many bytes was taken, or a part of it
abbrev pub TakesBody : ℕ → Result (Vec ℕ Global) PipeFault → Peer → Peer → Type 0
TakesBody len (Ok body) before now = Took body.items before now × (length body.items ≡ len)
TakesBody len (Err NotTaken) before now = (came : List ℕ) × Took came before now × (length came < len)
TakesBody len (Err Ended) before now = (came : List ℕ) × Took came before now × (length came < len) × (now.left ≡ [])
TakesBody len (Err Memory) before now = (came : List ℕ) × Took came before now
TakesBody len (Err _) before now = ⊥

-- so many bytes were taken and put behind some
abbrev pub AddsPiece : ℕ → List ℕ → Result Unit PipeFault → List ℕ → Peer → Peer → Type 0
AddsPiece count old (Ok done) new before now = (came : List ℕ) × Took came before now × (new ≡ old ++ came) × (length came ≡ count)
AddsPiece count old (Err NotTaken) new before now = (came : List ℕ) × Took came before now × (length came < count)
AddsPiece count old (Err Ended) new before now = (came : List ℕ) × Took came before now × (length came < count) × (now.left ≡ [])
AddsPiece count old (Err Memory) new before now = (came : List ℕ) × Took came before now
AddsPiece count old (Err _) new before now = ⊥

-- bytes of a body were taken behind some, until there are so many
abbrev pub FillsBody : ℕ → List ℕ → Result Unit PipeFault → List ℕ → Peer → Peer → Type 0
FillsBody len old (Ok done) new before now = (came : List ℕ) × Took came before now × (new ≡ old ++ came) × (length new ≡ len)
FillsBody len old (Err NotTaken) new before now = (came : List ℕ) × Took came before now × (length old + length came < len)
FillsBody len old (Err Ended) new before now = (came : List ℕ) × Took came before now × (length old + length came < len) × (now.left ≡ [])
FillsBody len old (Err Memory) new before now = (came : List ℕ) × Took came before now
FillsBody len old (Err _) new before now = ⊥

-- a length was taken, or a part of it
abbrev pub TakesLength : Result ℕ PipeFault → Peer → Peer → Type 0
TakesLength (Ok len) before now = (len < 2 ^ 32) × Took (to_be_bytes w32 len) before now
TakesLength (Err NotTaken) before now = (came : List ℕ) × Took came before now × (length came < 4)
TakesLength (Err Ended) before now = (came : List ℕ) × Took came before now × (length came < 4) × (now.left ≡ [])
TakesLength (Err _) before now = ⊥

-- what stands behind a length was taken, unless no answer has that length
abbrev pub TakesRest : ℕ → Result (Vec ℕ Global) PipeFault → Peer → Peer → Type 0
TakesRest len (Err BadLength) before now = (IsAnswerLength len → ⊥) × Took [] before now
TakesRest len result before now = IsAnswerLength len × TakesBody len result before now

-- a body was taken in its frame, or none was
abbrev pub TakesFrame : Result (Vec ℕ Global) PipeFault → Peer → Peer → Type 0
TakesFrame (Ok body) before now = Took (frame body.items) before now × IsAnswerLength (length body.items)
TakesFrame (Err NotTaken) before now = (came : List ℕ) × Took came before now × (HasAnswer came → ⊥)
TakesFrame (Err Ended) before now = (came : List ℕ) × Took came before now × (HasAnswer came → ⊥) × (now.left ≡ [])
TakesFrame (Err BadLength) before now = (len : ℕ) × (len < 2 ^ 32) × (IsAnswerLength len → ⊥) × Took (to_be_bytes w32 len) before now
TakesFrame (Err Memory) before now = (came : List ℕ) × Took came before now
TakesFrame (Err _) before now = ⊥

-- the answer that the body is, where it is one of the request's form
abbrev pub Reads : {T : Type 0} → Request → (T → Answer) → List ℕ → Result T ReadFault → Type 0
Reads request answer_of body (Ok value) = (answer_at body ≡ Some (answer_of value)) × Fits request (answer_of value)
Reads request answer_of body (Err read.Refused) = (refusal : Answer) × IsRefusal refusal × (answer_at body ≡ Some refusal)
Reads request answer_of body (Err read.NoAnswer) = (answer : Answer) → answer_at body ≡ Some answer → (Fits request answer ⊎ IsRefusal answer) → ⊥
Reads request answer_of body (Err read.Memory) = ⊤

-- each of them is a byte
abbrev pub AreBytes : List ℕ → Type 0
AreBytes bytes = (i : ℕ) → slice_index_or bytes i 0 < 256

-- what was read, or that there is nothing
abbrev pub ReadsAs : {X : Type 0} → Option X → Result X ReadFault → Type 0
ReadsAs found (Ok value) = found ≡ Some value
ReadsAs found (Err read.Refused) = ⊥
ReadsAs found (Err read.NoAnswer) = found ≡ None
ReadsAs found (Err read.Memory) = ⊤

-- the link is as it was
pub record LeavesLink (before now : PlainLine) : Type 0 where
  pub peer : now.peer ≡ before.peer
  pub put_faults : now.put_faults ≡ before.put_faults
  pub take_faults : now.take_faults ≡ before.take_faults

-- why no body came of what was asked
abbrev pub StopsNow : List ℕ → PlainLine → PlainLine → Option PipeFault → Option PipeFault → Type 0
StopsNow asked before now (Some fault) stopped = (stopped ≡ Some fault) × (now.peer ≡ before.peer)
StopsNow asked before now None (Some fault) = HasFaultCause fault before now × WhereTold before.peer now.peer (StopsAs fault asked)
StopsNow asked before now None None = ⊥

-- where memory was wanting: before anything was put, or within a frame
abbrev pub WantsNow : List ℕ → PlainLine → PlainLine → Option PipeFault → Option PipeFault → Type 0
WantsNow asked before now (Some fault) stopped = ⊥
WantsNow asked before now None (Some fault) = (fault ≡ Memory) × WhereTold before.peer now.peer (StopsAs Memory asked)
WantsNow asked before now None None = now.peer ≡ before.peer

-- the body that was answered to what was asked, or none
abbrev pub GetsBody : List ℕ → PlainLine → PlainLine → Result (Vec ℕ Global) RemoteFault → Type 0
GetsBody asked before now (Ok body) =
    (before.stopped ≡ None) × (now.stopped ≡ None) × (now.faults ≡ before.faults) × IsAnswerLength (length body.items)
    × WhereTold before.peer now.peer (Asked asked (frame body.items))
GetsBody asked before now (Err remote.Failed) = CountsOne before now × StopsNow asked before now before.stopped now.stopped
GetsBody asked before now (Err remote.Memory) = (now.faults ≡ before.faults) × WantsNow asked before now before.stopped now.stopped

-- why no body was taken of what was asked ahead
abbrev pub StopsTaken : PlainLine → PlainLine → Option PipeFault → Option PipeFault → Type 0
StopsTaken before now (Some fault) stopped = (stopped ≡ Some fault) × (now.peer ≡ before.peer)
StopsTaken before now None (Some fault) = HasFaultCause fault before now × WhereTold before.peer now.peer (TakesFrame (Err fault))
StopsTaken before now None None = ⊥

-- a body that was taken of what was asked ahead, or none
abbrev pub GetsTaken : PlainLine → PlainLine → Result (Vec ℕ Global) RemoteFault → Type 0
GetsTaken before now (Ok body) =
    (before.stopped ≡ None) × (now.stopped ≡ None) × (now.faults ≡ before.faults) × IsAnswerLength (length body.items)
    × WhereTold before.peer now.peer (Took (frame body.items))
GetsTaken before now (Err remote.Failed) = CountsOne before now × StopsTaken before now before.stopped now.stopped
GetsTaken before now (Err remote.Memory) =
    (before.stopped ≡ None) × (now.stopped ≡ Some Memory) × (now.faults ≡ before.faults) × WhereTold before.peer now.peer (TakesFrame (Err Memory))

-- it is the answer to a request for so many names, from wherever, or what stands in place of one
abbrev pub IsFit : List ℕ → ℕ → Type 0
IsFit body most = (answer : Answer) × (answer_at body ≡ Some answer) × ((x : Name) (back : ℕ) → Fits (ToNames x back most) answer ⊎ IsRefusal answer)

-- it is neither
abbrev pub IsUnfit : List ℕ → ℕ → Type 0
IsUnfit body most = (x : Name) (back : ℕ) (answer : Answer) → answer_at body ≡ Some answer → (Fits (ToNames x back most) answer ⊎ IsRefusal answer) → ⊥

-- such a body is let by, and behind another one nothing more is asked
abbrev pub LetsBy : List ℕ → ℕ → PlainLine → PlainLine → Result Unit RemoteFault → Type 0
LetsBy body most before now (Ok done) = (now ≡ before) × AreBytes body × IsFit body most
LetsBy body most before now (Err fault) =
    IsUnfit body most × LeavesLink before now × (fault ≡ remote.Failed) × CountsOne before now × (before.faults ≤ now.faults) × (now.stopped ≡ Some NoAnswer)

-- what reading a body came to: a refusal and what is no answer are failures, and behind the second nothing more is asked
abbrev pub EndsRead : {T : Type 0} → Result T ReadFault → PlainLine → PlainLine → Result T RemoteFault → Type 0
EndsRead (Ok value) before now result = (now ≡ before) × (result ≡ Ok value)
EndsRead (Err read.Refused) before now result = LeavesLink before now × CountsOne before now × (before.faults ≤ now.faults) × (now.stopped ≡ before.stopped) × (result ≡ Err remote.Failed)
EndsRead (Err read.NoAnswer) before now result = LeavesLink before now × CountsOne before now × (before.faults ≤ now.faults) × (now.stopped ≡ Some NoAnswer) × (result ≡ Err remote.Failed)
EndsRead (Err read.Memory) before now result = (now ≡ before) × (result ≡ Err remote.Memory)

-- the same of a request for so many names, from wherever, whose names were put to the front
abbrev pub ReadsNames : ℕ → List Name → List ℕ → Result ℕ ReadFault → Type 0
ReadsNames room out body result = (x : Name) (back : ℕ) → Reads (ToNames x back room) (λ n. Named (take n out)) body result

-- the same of a request for a way, from whichever heads to wherever
abbrev pub ReadsPath : List ℕ → Result (Option Path) ReadFault → Type 0
ReadsPath body result = (heads : List Name) (name : Name) → Reads (ToPath heads name) Led body result

-- one run is asked ahead, or nothing was done, or its frame wasn't put whole
abbrev pub PutsOne : Run → List Run → PlainLine → List Run → PlainLine → Bool → Type 0
PutsOne run queue before later now true = AsksAhead run before now × (later ≡ queue ++ run ∷ [])
PutsOne run queue before later now false = ((now ≡ before) × (later ≡ queue)) ⊎ (BreaksAt run before now × (later ≡ queue ++ run ∷ []))
