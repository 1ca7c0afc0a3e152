-- Which words are a usage of a mode, and what a program does that doesn't run.
use Rattle.std.specs.Prelude.{ℕ, ◌≡◌, ◌⊎◌, List, [], ◌∷◌}
use Rattle.program_words.specs.Usage.{IsUsage, IsNoUsage}
use Rattle.program_words.specs.declared.usage.Mode.{Mode}
use Rattle.program_words.specs.declared.usage.Mode.TheVariants.{Run, Demo, Serve, Bundle, Compact}
use Rattle.program_words.specs.declared.usage.Usage.{Usage}
use Rattle.dag_run.specs.Stops.{IsRunStatus, IsDemoStatus, IsOneOf}
use Rattle.dag_run.specs.Serving.{IsServeStatus}
use Rattle.dag_run.specs.Bundling.{IsBundleStatus}
use Rattle.dag_run.specs.Compacting.{IsCompactStatus}

-- the words are a usage of this mode
abbrev pub IsUsageOf : Mode → List (List ℕ) → Type 0
IsUsageOf mode words = (usage : Usage) × IsUsage words usage × (usage.mode ≡ mode)

-- Status 2 comes only where the words aren't a usage, and over such words always, unless memory was wanting to read them.
abbrev pub RefusesWords : List (List ℕ) → ℕ → Type 0
RefusesWords words status = (status ≡ 2 → IsNoUsage words) × (IsNoUsage words → (status ≡ 2) ⊎ (status ≡ 7))

-- the status of a program that ends at once, by its words
abbrev pub EndsAtOnce : List (List ℕ) → ℕ → Type 0
EndsAtOnce words status = ((status ≡ 2) × IsNoUsage words) ⊎ (status ≡ 7)

-- the words are a usage of the run, with room for so many names that mirrors gave
abbrev pub IsRunOf : ℕ → List (List ℕ) → Type 0
IsRunOf cache words = (usage : Usage) × IsUsage words usage × (usage.mode ≡ Run) × (usage.cache ≡ cache)

-- the words are a usage of the demonstration of so many commits, whose parents are drawn from that number on
abbrev pub IsDemoOf : ℕ → ℕ → List (List ℕ) → Type 0
IsDemoOf size start words = (usage : Usage) × IsUsage words usage × (usage.mode ≡ Demo) × (usage.size ≡ size) × (usage.start ≡ start)

-- the statuses of a mode
abbrev pub IsModeStatus : Mode → ℕ → Type 0
IsModeStatus Run status = IsRunStatus status
IsModeStatus Demo status = IsDemoStatus status
IsModeStatus Serve status = IsServeStatus status
IsModeStatus Bundle status = IsBundleStatus status
IsModeStatus Compact status = IsCompactStatus status

-- Where the words are a usage, the status is one of its mode. Status 10 comes only where they are one of `bundle`, and 13 to 15 only where
-- they are one of `compact`.
pub record HasModeStatus (words : List (List ℕ)) (status : ℕ) : Type 0 where
  pub usages : (mode : Mode) → IsUsageOf mode words → IsModeStatus mode status
  pub bundle : status ≡ 10 → IsUsageOf Bundle words
  pub compact : IsOneOf (13 ∷ 14 ∷ 15 ∷ []) status → IsUsageOf Compact words
