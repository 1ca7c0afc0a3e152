-- What was read and put when serving ended.
use Rattle.std.specs.Prelude.{◌≡◌, ◌≢◌, ◌<◌, ◌≤◌, ◌⊎◌, ℕ, List, [], ◌∷◌, ◌++◌, length, take}
use Rattle.std.specs.List.{AllByRecursion}
use Rattle.line_io.specs.Streams.{Streams}
use Rattle.remote_rules.specs.Mirror.{Mirror}
use Rattle.remote_serve.specs.Frames.{frames, IsBody, IsSplit, HasBadLength}
use Rattle.remote_serve.specs.Answers.{Answer, Answered, frame_of, output_of}
use Rattle.remote_serve.specs.declared.served.Served.{Served}
use Rattle.remote_serve.specs.declared.served.Served.TheVariants.{End, BadFrame, Limit, SourceFault, SinkFault, Memory}

-- The source gave these bytes, of which so many count: these whole frames and a rest. Each frame was answered, and the answers were
-- put whole.
pub record AnswersAll (limit : ℕ) (io : Streams) (m n : Mirror) : Type 0 where
  pub given : List ℕ
  pub bodies : List (List ℕ)
  pub rest : List ℕ
  pub answers : List Answer
  pub came : io.input ≡ given ++ io.left
  pub split : IsSplit (take limit given) bodies rest
  pub answered : Answered m n bodies answers
  pub put : io.now ≡ io.taken ++ output_of answers

-- all was given, within the limit, and ends behind a whole frame
pub record EndsWhole (limit : ℕ) (io : Streams) (given rest : List ℕ) : Type 0 where
  pub out : io.left ≡ []
  pub within : length given ≤ limit
  pub whole : rest ≡ []

-- a length that no request has; or all was given, within the limit, and ends within a frame
abbrev pub EndsBadly : ℕ → Streams → List ℕ → List ℕ → Type 0
EndsBadly limit io given rest = HasBadLength rest ⊎ ((io.left ≡ []) × (length given ≤ limit) × (rest ≢ []))

-- Each frame of the bytes that the source gave was answered up to one, whose answer was put in part; frames behind it may have come.
pub record AnswersInPart (limit : ℕ) (io : Streams) (m n : Mirror) : Type 0 where
  pub given : List ℕ
  pub bodies : List (List ℕ)
  pub last : List ℕ
  pub more : List ℕ
  pub answers : List Answer
  pub answer : Answer
  pub count : ℕ
  pub came : io.input ≡ given ++ io.left
  pub parts : take limit given ≡ frames (bodies ++ last ∷ []) ++ more
  pub each : AllByRecursion IsBody (bodies ++ last ∷ [])
  pub answered : Answered m n (bodies ++ last ∷ []) (answers ++ answer ∷ [])
  pub put : io.now ≡ io.taken ++ output_of answers ++ take count (frame_of answer)

-- What holds at each end. It speaks of the bytes alone, however they came in pieces.
abbrev pub EndsAs : Served → ℕ → Streams → Mirror → Mirror → Type 0
EndsAs End limit io m n = (a : AnswersAll limit io m n) × EndsWhole limit io a.given a.rest
EndsAs BadFrame limit io m n = (a : AnswersAll limit io m n) × EndsBadly limit io a.given a.rest
EndsAs Limit limit io m n = (a : AnswersAll limit io m n) × (limit < length a.given) × (HasBadLength a.rest → ⊥)
EndsAs SourceFault limit io m n = (a : AnswersAll limit io m n) × (HasBadLength a.rest → ⊥)
EndsAs SinkFault limit io m n = AnswersInPart limit io m n
EndsAs Memory limit io m n = (io.left ≡ io.input) × (io.now ≡ io.taken) × (n ≡ m)

-- the same of the one remote of a list
abbrev pub ServesOnly : Served → ℕ → Streams → List Mirror → List Mirror → Type 0
ServesOnly end limit io before now = (m : Mirror) × (n : Mirror) × (before ≡ m ∷ []) × (now ≡ n ∷ []) × EndsAs end limit io m n
