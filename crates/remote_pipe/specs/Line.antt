-- What a call over a link asks, and what comes of it.
use Rattle.std.specs.Prelude.{◌≡◌, ◌≤◌, ◌+◌, ◌⊎◌, ℕ, min, Bool, false, is_some, List, [], length, Option, Some, None, Result, Ok, Err, Vec, IfSome, ⊤}
use Rattle.std.specs.declared.alloc.AllocError.{AllocError}
use Rattle.std.specs.declared.alloc.Global.{Global}
use Rattle.outside.specs.Counts.{Rose, last_count}
use Rattle.outside.specs.Told.{WhereTold}
use Rattle.remote_rules.specs.Mirror.{Mirror}
use Rattle.remote_trait.specs.declared.fault.RemoteFault.{RemoteFault}
use Rattle.remote_trait.specs.declared.fault.RemoteFault.TheVariants as remote
use Rattle.remote_serve.specs.Frames.{frame}
use Rattle.remote_serve.specs.Requests.{Request, IsRequest}
use Rattle.remote_serve.specs.Answers.{Answer, answer_bytes, frame_of, longest_answer, IsAnswer}
use Rattle.remote_pipe.specs.Answering.{Answers, Fits, IsAnswerLength, IsRefusal}
use Rattle.remote_pipe.specs.Peer.{Peer, request_frame}
use Rattle.remote_pipe.specs.Exchange.{Asked, StopsAs}
use Rattle.remote_pipe.specs.declared.fault.PipeFault.{PipeFault}
use Rattle.remote_pipe.specs.declared.fault.PipeFault.TheVariants.{NotPut, NotTaken, NoAnswer, Memory}

pub record PlainLine : Type 0 where
  -- who is at the other end, where the link tells that, and how often its calls failed
  pub peer : Option Peer
  pub put_faults : ℕ
  pub take_faults : ℕ
  -- why no more is asked, if no more is
  pub stopped : Option PipeFault
  -- how many calls failed
  pub faults : ℕ

-- the mirror that is served at the other end, where one is
abbrev pub served_by : Option Peer → Option Mirror
served_by None = None
served_by (Some peer) = peer.mirror

-- no byte of a mirror that is served is still to come
abbrev pub AwaitsNothing : Option Peer → Type 0
AwaitsNothing None = ⊤
AwaitsNothing (Some peer) = IfSome peer.mirror (λ _. peer.left ≡ [])

-- what no call changes: whether a mirror is served, and that counts never fall
pub record Keeps (before now : PlainLine) : Type 0 where
  pub served : is_some (served_by now.peer) ≡ is_some (served_by before.peer)
  pub put_faults : before.put_faults ≤ now.put_faults
  pub take_faults : before.take_faults ≤ now.take_faults
  pub faults : before.faults ≤ now.faults

-- the link failed where that is why
abbrev pub HasFaultCause : PipeFault → PlainLine → PlainLine → Type 0
HasFaultCause NotPut before now = Rose before.put_faults now.put_faults
HasFaultCause NotTaken before now = Rose before.take_faults now.take_faults
HasFaultCause _ before now = ⊤

-- a body was taken that is no answer to the request
abbrev pub TookNoAnswer : Request → Peer → Peer → Type 0
TookNoAnswer request before now =
    (body : List ℕ) × Asked (request_frame request) (frame body) before now × IsAnswerLength (length body) × (Answers request body → ⊥)

-- why nothing is asked behind this request
abbrev pub StopsBehind : PipeFault → Request → Peer → Peer → Type 0
StopsBehind NoAnswer request before now = TookNoAnswer request before now
StopsBehind fault request before now = StopsAs fault (request_frame request) before now

-- the request was put in a frame, and one frame was taken, which has this answer
pub record TookAnswer (request : Request) (answer : Answer) (before now : PlainLine) : Type 0 where
  pub is_request : IsRequest request
  pub is_answer : IsAnswer answer
  pub short : length (answer_bytes answer) ≤ longest_answer
  pub asked : WhereTold before.peer now.peer (Asked (request_frame request) (frame_of answer))

-- what stands in place of an answer was taken
abbrev pub TookRefusal : Request → PlainLine → PlainLine → Type 0
TookRefusal request before now = (refusal : Answer) × IsRefusal refusal × TookAnswer request refusal before now

-- it can't be asked, and nothing was put and nothing taken
abbrev pub IsUnasked : Request → PlainLine → PlainLine → Type 0
IsUnasked request before now = (IsRequest request → ⊥) × (now.peer ≡ before.peer)

-- Why a call failed. Once no more is asked, nothing is put and nothing is taken.
abbrev pub Failing : Request → PlainLine → PlainLine → Option PipeFault → Option PipeFault → Type 0
Failing request before now (Some fault) stopped = (stopped ≡ Some fault) × (now.peer ≡ before.peer)
Failing request before now None (Some fault) = IsRequest request × HasFaultCause fault before now × WhereTold before.peer now.peer (StopsBehind fault request)
Failing request before now None None = TookRefusal request before now ⊎ IsUnasked request before now

-- a frame was taken, and memory was wanting for what it has
abbrev pub TookBody : Request → PlainLine → PlainLine → Type 0
TookBody request before now =
    IsRequest request × (body : List ℕ) × IsAnswerLength (length body) × WhereTold before.peer now.peer (Asked (request_frame request) (frame body))

-- where memory was wanting: before anything was put, behind the frame, or within it, and then no more is asked
abbrev pub Wanting : Request → PlainLine → PlainLine → Option PipeFault → Option PipeFault → Type 0
Wanting request before now (Some fault) stopped = ⊥
Wanting request before now None (Some fault) = IsRequest request × (fault ≡ Memory) × WhereTold before.peer now.peer (StopsAs Memory (request_frame request))
Wanting request before now None None = (now.peer ≡ before.peer) ⊎ TookBody request before now

-- a failure is counted once
abbrev pub CountsOne : PlainLine → PlainLine → Type 0
CountsOne before now = now.faults ≡ min (before.faults + 1) last_count

-- what came of a call, by what it answers: an answer comes of an answer of the request's form that was taken
abbrev pub Ends : {T : Type 0} → Request → (T → Answer) → PlainLine → PlainLine → Result T RemoteFault → Type 0
Ends request answer_of before now (Ok value) =
    (before.stopped ≡ None) × (now.stopped ≡ None) × (now.faults ≡ before.faults) × Fits request (answer_of value) × TookAnswer request (answer_of value) before now
Ends request answer_of before now (Err remote.Failed) = CountsOne before now × Failing request before now before.stopped now.stopped
Ends request answer_of before now (Err remote.Memory) = (now.faults ≡ before.faults) × Wanting request before now before.stopped now.stopped

pub record Asks {T : Type 0} (request : Request) (answer_of : T → Answer) (before now : PlainLine) (result : Result T RemoteFault) : Type 0 where
  pub keeps : Keeps before now
  pub ends : Ends request answer_of before now result
