-- Which answers are of a request's form.
use Rattle.std.specs.Prelude.{◌≡◌, ◌≤◌, ◌⊎◌, ℕ, List, length, ⊤}
use Rattle.remote_serve.specs.Requests.{Request, ToRefresh, ToClone, ToNames, ToPath}
use Rattle.remote_serve.specs.Answers.{Answer, Refreshed, Cloned, Named, Led, HasFailed, IsTooLong, IsNoRequest, HasNoMemory, IsAnswer, longest_answer, answer_bytes}

-- an answer of the request's form
abbrev pub Fits : Request → Answer → Type 0
Fits ToRefresh Refreshed = ⊤
Fits ToClone (Cloned told) = ⊤
Fits (ToNames x back count) (Named names) = length names ≤ count
Fits (ToPath heads name) (Led found) = ⊤
Fits _ _ = ⊥

-- what stands in place of an answer
abbrev pub IsRefusal : Answer → Type 0
IsRefusal HasFailed = ⊤
IsRefusal IsTooLong = ⊤
IsRefusal IsNoRequest = ⊤
IsRefusal HasNoMemory = ⊤
IsRefusal _ = ⊥

-- a length that an answer may have
abbrev pub IsAnswerLength : ℕ → Type 0
IsAnswerLength n = (1 ≤ n) × (n ≤ longest_answer)

-- the bytes are an answer of the request's form, or what stands in place of one
abbrev pub Answers : Request → List ℕ → Type 0
Answers request body = (answer : Answer) × IsAnswer answer × (body ≡ answer_bytes answer) × (Fits request answer ⊎ IsRefusal answer)
