-- All calls of a disk that notes them.
use Rattle.std.specs.Prelude.{◌≡◌, ◌<◌, ◌≤◌, ◌⊎◌, ◌^◌, ◌+◌, ℕ, List, [], ◌∷◌, ◌++◌}
use Rattle.call_disk.specs.Noted.{Call, Step}

-- those that were noted, how many behind them changed nothing, and how many there are in all
pub record Tape : Type 0 where
  pub steps : List Step
  pub idle : ℕ
  pub calls : ℕ

-- how many there are
abbrev pub count_of : List Step → ℕ → ℕ
count_of [] idle = idle
count_of (step ∷ steps) idle = step.idle + 1 + count_of steps idle

-- there are as many as are counted
abbrev pub IsCounted : Tape → Type 0
IsCounted tape = count_of tape.steps tape.idle ≡ tape.calls

-- the call is noted behind the others
pub record IsNoted (call : Call) (old new : Tape) : Type 0 where
  pub early : old.calls < 2 ^ 61
  pub steps : new.steps ≡ old.steps ++ record { idle = old.idle; call = call } ∷ []
  pub idle : new.idle ≡ 0
  pub calls : new.calls ≡ old.calls + 1

-- a call more that changes nothing
pub record IsPassed (old new : Tape) : Type 0 where
  pub early : old.calls < 2 ^ 61
  pub steps : new.steps ≡ old.steps
  pub idle : new.idle ≡ old.idle + 1
  pub calls : new.calls ≡ old.calls + 1

-- a call that changes nothing, or is refused, as there were as many as may be
abbrev pub IsIdle : Tape → Tape → Type 0
IsIdle old new = IsPassed old new ⊎ ((2 ^ 61 ≤ old.calls) × (new ≡ old))
