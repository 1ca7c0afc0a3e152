-- What a call by words says of the status, as of words.
use Rattle.std.proofs.Common.{ℕ, ◌≡◌, ◌∙◌, inl, inr, List, Option, Some, None, sym}
use Rattle.std.specs.Prelude.{MatchOption}
use Rattle.program_words.specs.Usage.{IsUsage}
use Rattle.program_words.specs.declared.usage.Usage.{Usage}
use Rattle.dag_run.specs.Modes.{EndsAtOnce, HasModeStatus, IsModeStatus, RefusesWords}
use Rattle.dag_run.proofs.ModeStatuses.{mode-refuses, mode-words, once-words}
use Rattle.segdag.specs.Usage.{EndsUncalled, HasStatus, IsCalledBy, Refuses, mode_words}
use Rattle.segdag.specs.declared.words.Called.{Called}

has : (mode : Option (List (List ℕ))) (usage : Usage) (status : ℕ) → IsModeStatus usage.mode status → MatchOption mode ⊥ (λ m. IsUsage m usage) → MatchOption mode (status ≡ 2) (λ m. HasModeStatus m status)
has None usage status known is = absurd is
has (Some m) usage status known is = mode-words m usage status is known

refuses : (mode : Option (List (List ℕ))) (usage : Usage) (status : ℕ) → IsModeStatus usage.mode status → MatchOption mode ⊥ (λ m. IsUsage m usage) → MatchOption mode (status ≡ 2) (λ m. RefusesWords m status)
refuses None usage status known is = absurd is
refuses (Some m) usage status known is = mode-refuses m usage status is known

-- where they call the program so, and it ends with a status of that usage
pub called-has : (words : List (List ℕ)) (called : Called) (status : ℕ) → IsCalledBy words called → IsModeStatus called.usage.mode status → HasStatus words status
called-has words called status is known = has (mode_words words) called.usage status known is.usage

pub called-refuses : (words : List (List ℕ)) (called : Called) (status : ℕ) → IsCalledBy words called → IsModeStatus called.usage.mode status → Refuses words status
called-refuses words called status is known = refuses (mode_words words) called.usage status known is.usage

-- where they don't
once-refuses : (words : List (List ℕ)) (status : ℕ) → EndsAtOnce words status → RefusesWords words status
once-refuses words status (inl none) = (λ two. none.1, λ not. inl none.0)
once-refuses words status (inr seven) = (λ two. absurd (let never : 7 ≡ 2 = sym seven ∙ two in cc never), λ not. inr seven)

has-once : (mode : Option (List (List ℕ))) (status : ℕ) → MatchOption mode (status ≡ 2) (λ m. EndsAtOnce m status) → MatchOption mode (status ≡ 2) (λ m. HasModeStatus m status)
has-once None status h = h
has-once (Some m) status h = once-words m status h

refuses-once : (mode : Option (List (List ℕ))) (status : ℕ) → MatchOption mode (status ≡ 2) (λ m. EndsAtOnce m status) → MatchOption mode (status ≡ 2) (λ m. RefusesWords m status)
refuses-once None status h = h
refuses-once (Some m) status h = once-refuses m status h

pub uncalled-has : (words : List (List ℕ)) (status : ℕ) → EndsUncalled words status → HasStatus words status
uncalled-has words status h = has-once (mode_words words) status h

pub uncalled-refuses : (words : List (List ℕ)) (status : ℕ) → EndsUncalled words status → Refuses words status
uncalled-refuses words status h = refuses-once (mode_words words) status h
