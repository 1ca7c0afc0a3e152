-- A run over the lines of an input.
use Rattle.std.specs.Prelude.{◌≡◌, ◌⊎◌, ℕ, List, [], ◌∷◌, flat_map}
use Rattle.std.specs.Bool.{MatchBool}
use Rattle.line_io.specs.Lines.{is_too_long, is_silent}
use Rattle.change_rules.specs.declared.Limits.{Limits}
use Rattle.step_rules.specs.declared.Refusal.TheVariants.{Memory}
use Rattle.step_rules.specs.State.{State}
use Rattle.step_rules.specs.Verb.{Verb}
use Rattle.step_rules.specs.Reply.{Reply, Refused, NoCommand, LongLine, reply_text}
use Rattle.step_rules.specs.Step.{CommandStep, MayWantMemory}
use Rattle.run_rules.specs.Grammar.{SpellsCommand}

-- a line that is a command gets the command's reply
abbrev pub Commands : Limits → State → List ℕ → Reply → State → Type 0
Commands limits st line reply st' = (s : ℕ) × (verb : Verb) × SpellsCommand line s verb × CommandStep limits st s verb reply st'

-- any other line is no command
abbrev pub IsNoCommand : State → List ℕ → Reply → State → Type 0
IsNoCommand st line reply st' = ((s : ℕ) (verb : Verb) → ¬ (SpellsCommand line s verb)) × (reply ≡ NoCommand) × (st' ≡ st)

-- there may be no memory to read a line, unless it is a command that wants none
abbrev pub IsUnread : State → List ℕ → Reply → State → Type 0
IsUnread st line reply st' =
    ((s : ℕ) (verb : Verb) → SpellsCommand line s verb → MayWantMemory verb) × (reply ≡ Refused Memory) × (st' ≡ st)

-- the line may get this reply and lead from one state to the other
abbrev pub Step : Limits → State → List ℕ → Reply → State → Type 0
Step limits st line reply st' =
    MatchBool (is_too_long line)
    ((reply ≡ LongLine) × (st' ≡ st))
    (Commands limits st line reply st' ⊎ (IsNoCommand st line reply st' ⊎ IsUnread st line reply st'))

-- the lines may get these replies, one step after another; a line that is silent gets none and changes nothing
abbrev pub Run : Limits → State → List (List ℕ) → List Reply → State → Type 0
Run limits st [] replies st' = (replies ≡ []) × (st' ≡ st)
Run limits st (line ∷ lines) replies st' =
    MatchBool (is_silent line)
    (Run limits st lines replies st')
    ((reply : Reply) × (more : List Reply) × (mid : State) × (replies ≡ reply ∷ more)
    × Step limits st line reply mid × Run limits mid lines more st')

-- what is written for these replies
abbrev pub output_of : List Reply → List ℕ
output_of replies = flat_map reply_text replies
