-- A log that another process extends while it is read, and what a reader of it answers.
use Rattle.std.specs.Prelude.{◌≡◌, ◌<◌, ◌≤◌, ◌+◌, ℕ, List, ◌++◌, length, Option, Some, None, Result, Ok, Err, ⊤}
use Rattle.outside.specs.Told.{WhereTold}
use Rattle.disk_trait.specs.Meanwhile.{Meanwhile, Lasts, IsBetween, IsLengthBetween}
use Rattle.gated_log.specs.Log.{IsLog}
use Rattle.gated_log.specs.Held.{Held}
use Rattle.gated_log.specs.declared.LoadLog.{LoadLog}
use Rattle.gated_log.specs.declared.LoadLog.TheVariants.{Damaged, TooLarge, Disk, Memory}

-- how many reads a reader makes at most, each of them of what was behind the one before
abbrev pub most_reads : ℕ
most_reads = 1000

-- From a moment on the bytes are the log of some payloads at each moment: payloads only come behind those that are there, and the
-- file becomes no shorter. So a gate is opened once, and behind it the payload and a next gate stand from then on. What stands
-- behind the first closed gate may change at each moment.
pub record IsGrowing (film : ℕ → List ℕ) (payloads : ℕ → List (List ℕ)) (from : ℕ) : Type 0 where
  pub is_log : (moment : ℕ) → from ≤ moment → IsLog (film moment) (payloads moment)
  pub grows : (m n : ℕ) → from ≤ m → m ≤ n → (behind : List (List ℕ)) × (payloads n ≡ payloads m ++ behind)
  pub no_shorter : (m n : ℕ) → from ≤ m → m ≤ n → length (film m) ≤ length (film n)

-- these are the payloads of some moment between the two
abbrev pub AreOfMoment : (ℕ → List (List ℕ)) → ℕ → ℕ → List (List ℕ) → Type 0
AreOfMoment payloads from to these = (moment : ℕ) × IsBetween from to moment × (these ≡ payloads moment)

-- What a reader of a log that grows answers: the payloads of some moment meanwhile. It is damaged only where as many payloads
-- came meanwhile as it makes reads at most, and too large only where it was so at some moment.
abbrev pub AnswersGrown : ℕ → (ℕ → List ℕ) → (ℕ → List (List ℕ)) → ℕ → ℕ → Result Held LoadLog → Type 0
AnswersGrown limit film payloads from to (Ok log) = AreOfMoment payloads from to log.payloads
AnswersGrown limit film payloads from to (Err (Damaged at)) = length (payloads from) + most_reads ≤ length (payloads to)
AnswersGrown limit film payloads from to (Err (TooLarge size)) = (limit < size) × IsLengthBetween film from to size
AnswersGrown limit film payloads from to (Err Memory) = ⊤
AnswersGrown limit film payloads from to (Err (Disk fault)) = ⊤

-- a whole reading of a log that grows from its first moment on
abbrev pub ReadsGrown : ℕ → (ℕ → List (List ℕ)) → Result Held LoadLog → Meanwhile → Meanwhile → Type 0
ReadsGrown limit payloads result old new =
    Lasts old new × (IsGrowing old.film payloads old.now → AnswersGrown limit old.film payloads old.now new.now result)

-- A load of a log that grows from its first moment on, and had two bytes then: one that it doesn't write.
abbrev pub LoadsGrown : ℕ → (ℕ → List (List ℕ)) → Result Held LoadLog → Option Meanwhile → Option Meanwhile → Type 0
LoadsGrown limit payloads result None now = ⊤
LoadsGrown limit payloads result (Some old) now =
    IsGrowing old.film payloads old.now → 2 ≤ length (old.film old.now) → WhereTold (Some old) now (ReadsGrown limit payloads result)
