-- How the words of the program, its own name in front, call it.
use Rattle.std.specs.Prelude.{ℕ, ◌≡◌, List, [], ◌∷◌, drop, map, string_bytes, slice_get, Option, Some, None, MatchOption}
use Rattle.std.specs.Option.{option_map}
use Rattle.program_words.specs.Usage.{IsUsage}
use Rattle.dag_run.specs.Modes.{EndsAtOnce, HasModeStatus, RefusesWords}
use Rattle.dag_run.specs.Words.{dashes_at, split_of}
use Rattle.segdag.specs.Remotes.{remote_words}
use Rattle.segdag.specs.declared.words.Called.{Called}
use Rattle.segdag.specs.declared.words.Parts.{Parts}

-- the words behind the first `--` of those behind the name; none where it is missing or the first of them
abbrev pub mode_words : List (List ℕ) → Option (List (List ℕ))
mode_words [] = None
mode_words (name ∷ words) = option_map (λ split. drop split.rest words) (split_of (dashes_at words))

-- The words call the program so: the first behind the name is the log's path, the remotes are those before the first `--`, and those behind it
-- are this usage.
pub record IsCalledBy (words : List (List ℕ)) (called : Called) : Type 0 where
  pub path : slice_get words 1 ≡ Some (string_bytes called.path.now)
  pub remotes : map string_bytes called.remotes.now ≡ remote_words words
  pub usage : MatchOption (mode_words words) ⊥ (λ mode. IsUsage mode called.usage)

-- They don't, with this status: 2 where no words are behind a `--`, or where those are no usage, and 7 for want of memory to read them.
abbrev pub EndsUncalled : List (List ℕ) → ℕ → Type 0
EndsUncalled words status = MatchOption (mode_words words) (status ≡ 2) (λ mode. EndsAtOnce mode status)

-- ---- what follows for statuses
-- where none are there the status is 2, and else it refuses those that are
abbrev pub Refuses : List (List ℕ) → ℕ → Type 0
Refuses words status = MatchOption (mode_words words) (status ≡ 2) (λ mode. RefusesWords mode status)

-- and the status is one that their mode may have
abbrev pub HasStatus : List (List ℕ) → ℕ → Type 0
HasStatus words status = MatchOption (mode_words words) (status ≡ 2) (λ mode. HasModeStatus mode status)

-- ---- for the code's own clauses
pub record ArePartsOf (words : List (List ℕ)) (parts : Parts) : Type 0 where
  pub path : slice_get words 1 ≡ Some (string_bytes parts.path.now)
  pub remotes : map string_bytes parts.remotes.now ≡ remote_words words
  pub mode : mode_words words ≡ Some (map string_bytes parts.mode.now)
