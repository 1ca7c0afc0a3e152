-- Who is at the other end of a link, and what comes of what is put.
use Rattle.std.specs.Prelude.{◌≡◌, ℕ, List, [], ◌∷◌, ◌++◌, Option, Some, None, Result, Ok, Err}
use Rattle.std.specs.Io.KnownBytes.{ReadConsumes}
use Rattle.outside.specs.Told.{TookFront}
use Rattle.remote_rules.specs.Mirror.{Mirror}
use Rattle.remote_serve.specs.Frames.{frame}
use Rattle.remote_serve.specs.Requests.{Request, IsRequest, request_bytes}
use Rattle.remote_serve.specs.Answers.{Allows, LeftBy, frame_of, Answer, IsAnswer}

pub record Peer : Type 0 where
  -- the mirror that is served there, where one is
  pub mirror : Option Mirror
  -- the bytes that are to come
  pub left : List ℕ
  -- the bytes that were put
  pub taken : List ℕ

-- a request in its frame
abbrev pub request_frame : Request → List ℕ
request_frame request = frame (request_bytes request)

-- a mirror that was m and is n now answers a request, by an answer that it allows
abbrev pub Serves : Request → Mirror → Mirror → List ℕ → Type 0
Serves request m n came = LeftBy request m n × (answer : Answer) × IsAnswer answer × Allows m n request answer × (came ≡ frame_of answer)

-- What comes of a piece that was put whole: a mirror that is served answers what is a request, and where none is nothing more comes than was
-- to come anyway.
abbrev pub Brings : List ℕ → Option Mirror → Option Mirror → List ℕ → Type 0
Brings piece None now came = (now ≡ None) × (came ≡ [])
Brings piece (Some m) None came = ⊥
Brings piece (Some m) (Some n) came = (request : Request) → IsRequest request → piece ≡ request_frame request → Serves request m n came

-- These pieces were put whole one after another to who serves a mirror, and this came of each. The mirror was m before, and is n behind them.
abbrev pub BringsEach : List (List ℕ) → Mirror → Mirror → List (List ℕ) → Type 0
BringsEach [] m n came = (n ≡ m) × (came ≡ [])
BringsEach (piece ∷ pieces) m n [] = ⊥
BringsEach (piece ∷ pieces) m n (first ∷ more) = (between : Mirror) × Brings piece (Some m) (Some between) first × BringsEach pieces between n more

-- the piece was put whole
pub record PutsWhole (piece : List ℕ) (before now : Peer) : Type 0 where
  pub taken : now.taken ≡ before.taken ++ piece
  pub came : List ℕ
  pub left : now.left ≡ before.left ++ came
  pub brings : Brings piece before.mirror now.mirror came

-- a front of it was put, and nothing came of that
pub record PutsFront (piece : List ℕ) (before now : Peer) : Type 0 where
  pub taken : TookFront piece before.taken now.taken
  pub left : now.left ≡ before.left
  pub mirror : now.mirror ≡ before.mirror

abbrev pub PutsTo : {E : Type 0} → List ℕ → Result Unit E → Peer → Peer → Type 0
PutsTo piece (Ok done) before now = PutsWhole piece before now
PutsTo piece (Err fault) before now = PutsFront piece before now

-- bytes that came were taken, and nothing was put
pub record TakesFrom {E : Type 0} (result : Result ℕ E) (out : List ℕ) (before now : Peer) : Type 0 where
  pub bytes : ReadConsumes (Some before.left) (Some now.left) result out
  pub taken : now.taken ≡ before.taken
  pub mirror : now.mirror ≡ before.mirror

-- the two ends of a pipe behind which nobody is known to serve
abbrev pub peer_of : Option (List ℕ) → Option (List ℕ) → Option Peer
peer_of (Some left) (Some taken) = Some (record { mirror = None; left = left; taken = taken })
peer_of (Some left) None = None
peer_of None taken = None
