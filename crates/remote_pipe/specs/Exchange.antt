-- A request that is put in a frame, and an answer that is taken in one.
use Rattle.std.specs.Prelude.{◌≡◌, ◌<◌, ◌^◌, ℕ, List, [], ◌++◌, length, Result, Ok, Err, Vec}
use Rattle.std.specs.Int.{w32, to_be_bytes}
use Rattle.std.specs.declared.alloc.Global.{Global}
use Rattle.remote_serve.specs.Frames.{frame}
use Rattle.remote_pipe.specs.Answering.{IsAnswerLength}
use Rattle.remote_pipe.specs.Peer.{Peer, PutsWhole, PutsFront}
use Rattle.remote_pipe.specs.declared.fault.PipeFault.{PipeFault}
use Rattle.remote_pipe.specs.declared.fault.PipeFault.TheVariants.{NotPut, NotTaken, Ended, BadLength, NoAnswer, Memory}

-- these bytes were put whole, and then those were taken
pub record Asked (asked came : List ℕ) (before now : Peer) : Type 0 where
  pub mid : Peer
  pub put : PutsWhole asked before mid
  pub split : mid.left ≡ came ++ now.left
  pub taken : now.taken ≡ mid.taken
  pub mirror : now.mirror ≡ mid.mirror

-- these bytes were taken, and nothing was put
pub record Took (came : List ℕ) (before now : Peer) : Type 0 where
  pub split : before.left ≡ came ++ now.left
  pub taken : now.taken ≡ before.taken
  pub mirror : now.mirror ≡ before.mirror

-- a whole frame stands in front whose body is as long as an answer may be
abbrev pub HasAnswer : List ℕ → Type 0
HasAnswer bytes = (body : List ℕ) × (more : List ℕ) × IsAnswerLength (length body) × (bytes ≡ frame body ++ more)

-- Why no body was taken behind what was asked: that wasn't put whole; or before a frame was whole the link failed, or all that came had
-- ended; or a length came that no answer has, behind which nothing was taken; or memory was wanting.
abbrev pub StopsAs : PipeFault → List ℕ → Peer → Peer → Type 0
StopsAs NotPut asked before now = PutsFront asked before now
StopsAs NotTaken asked before now = (came : List ℕ) × Asked asked came before now × (HasAnswer came → ⊥)
StopsAs Ended asked before now = (came : List ℕ) × Asked asked came before now × (HasAnswer came → ⊥) × (now.left ≡ [])
StopsAs BadLength asked before now = (len : ℕ) × (len < 2 ^ 32) × (IsAnswerLength len → ⊥) × Asked asked (to_be_bytes w32 len) before now
StopsAs NoAnswer asked before now = ⊥
StopsAs Memory asked before now = (came : List ℕ) × Asked asked came before now

-- a body was taken in its frame, or none was
abbrev pub Exchanges : List ℕ → Result (Vec ℕ Global) PipeFault → Peer → Peer → Type 0
Exchanges asked (Ok body) before now = Asked asked (frame body.items) before now × IsAnswerLength (length body.items)
Exchanges asked (Err fault) before now = StopsAs fault asked before now
