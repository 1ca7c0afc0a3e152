-- The turns of a run.
use Rattle.std.specs.Prelude.{◌≡◌, ◌<◌, ◌⊎◌, ℕ, List, [], ◌∷◌}
use Rattle.std.specs.Bool.{MatchBool}
use Rattle.std.specs.List.{AllZip}
use Rattle.id_groups.specs.Name.{Name}
use Rattle.commit_graph.specs.World.{World}
use Rattle.batch_codec.specs.Payload.{Payload}
use Rattle.line_io.specs.Lines.{is_too_long, is_silent}
use Rattle.change_rules.specs.declared.Limits.{Limits}
use Rattle.remote_rules.specs.Mirror.{Mirror}
use Rattle.step_rules.specs.State.{State, session_count, at_start}
use Rattle.step_rules.specs.Verb.{Verb}
use Rattle.step_rules.specs.Reply.{Reply, LongLine}
use Rattle.step_rules.specs.Step.{CommandStep}
use Rattle.step_rules.specs.Turns.{Turn, turns_of}
use Rattle.step_rules.specs.Isolation.{AreAlike, IsAnsweredAlike}
use Rattle.run_rules.specs.Grammar.{SpellsCommand}
use Rattle.run_rules.specs.Run.{IsNoCommand, IsUnread}

-- a session's command with its reply, from one state to the other
abbrev pub turn : State → ℕ → Verb → Reply → State → Turn
turn st s verb reply st' = record { session = s; verb = verb; reply = reply; before = st; after = st' }

-- the line is a command, and its step is the first of these turns, before the others
abbrev pub TakesTurn : Limits → State → List ℕ → Reply → State → List Turn → List Turn → Type 0
TakesTurn limits st line reply st' turns more =
    (s : ℕ) × (verb : Verb) × SpellsCommand line s verb × CommandStep limits st s verb reply st' × (turns ≡ turn st s verb reply st' ∷ more)

-- The line may get this reply and lead from one state to the other, and it takes the first of these turns, before the others; or it
-- takes none and changes nothing, since it is too long, no command, or wasn't read for want of memory.
abbrev pub TurnedStep : Limits → State → List ℕ → Reply → State → List Turn → List Turn → Type 0
TurnedStep limits st line reply st' turns more =
    MatchBool (is_too_long line)
    ((reply ≡ LongLine) × (st' ≡ st) × (turns ≡ more))
    (TakesTurn limits st line reply st' turns more ⊎ ((IsNoCommand st line reply st' ⊎ IsUnread st line reply st') × (turns ≡ more)))

-- A run of these lines with these replies, from one state to the other, in which these are the turns: its commands in order, each
-- with its reply, and the states before it and after. A silent line takes none.
abbrev pub TurnedRun : Limits → State → List (List ℕ) → List Reply → State → List Turn → Type 0
TurnedRun limits st [] replies st' turns = (replies ≡ []) × (st' ≡ st) × (turns ≡ [])
TurnedRun limits st (line ∷ lines) replies st' turns =
    MatchBool (is_silent line)
    (TurnedRun limits st lines replies st' turns)
    ((reply : Reply) × (more : List Reply) × (mid : State) × (later : List Turn) × (replies ≡ reply ∷ more)
    × TurnedStep limits st line reply mid turns later × TurnedRun limits mid lines more st' later)

-- Two runs from one world, whatever the logs, the mirrors, the room and the other sessions. They have turns, and a session whose
-- turns are alike in both gets the same replies.
abbrev pub AreIsolatedRuns : Type 0
AreIsolatedRuns =
    (limits : Limits) (s : ℕ) (w : World Name) (p q : List Payload) (room space : ℕ) (mirrors others : List Mirror)
    (lines words : List (List ℕ)) (replies answers : List Reply) (last end : State) (ts us : List Turn)
    → s < session_count → TurnedRun limits (at_start w p room mirrors) lines replies last ts → TurnedRun limits (at_start w q space others) words answers end us
    → AllZip (AreAlike limits s) (turns_of s ts) (turns_of s us) → AllZip IsAnsweredAlike (turns_of s ts) (turns_of s us)
