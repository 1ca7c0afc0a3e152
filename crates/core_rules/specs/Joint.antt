-- One store in place of several: its sessions are those of all cores, and each core's are beside what is outside of that core.
use Rattle.std.specs.Prelude.{◌≡◌, ◌≢◌, ◌<◌, ◌⊎◌, ℕ, ◌+◌, ◌*◌, List, [], ◌∷◌, filter, nat_eq, replicate}
use Rattle.id_groups.specs.Name.{Name}
use Rattle.commit_graph.specs.World.{World}
use Rattle.batch_codec.specs.Payload.{Payload}
use Rattle.change_rules.specs.declared.Limits.{Limits}
use Rattle.step_rules.specs.State.{State, Stored, Outside, session_count, new_session, session, start}
use Rattle.step_rules.specs.Step.{CommandStep}
use Rattle.step_rules.specs.Turns.{Turn}
use Rattle.core_rules.specs.Cores.{Written, Cores, Line, StoresNone, lacks, with_changes}

-- the store, and what is outside of each core
pub record Joint : Type 0 where
  pub store : Stored
  pub outside : ℕ → Outside

-- the number of a core's session among all
abbrev pub number : ℕ → ℕ → ℕ
number i s = i * 16 + s

-- the state that a core's sessions are of
abbrev pub state_of : Joint → ℕ → State
state_of joint i = record { store = joint.store; outside = joint.outside i }

-- at the start, with the sessions of n cores
abbrev pub joint_start : ℕ → World Name → List Payload → (ℕ → Outside) → Joint
joint_start n w payloads outside = record {
  store = record { past = []; stored = w; payloads = payloads; sessions = replicate (n * 16) new_session };
  outside = outside;
}

-- what is outside of the other cores stays
abbrev pub OutsidesStay : ℕ → Joint → Joint → Type 0
OutsidesStay i old new = (k : ℕ) → k ≢ i → new.outside k ≡ old.outside k

-- the line is a command of the one store, with its reply
pub record Answers (limits : Limits) (line : Line) (old new : Joint) : Type 0 where
  pub step : CommandStep limits (state_of old line.core) (number line.core line.session) line.verb line.reply (state_of new line.core)
  pub others : OutsidesStay line.core old new

-- The line is a command of the one store as it was before its last changes: these come behind what the command makes, which stores
-- nothing.
pub record AnswersBehind (limits : Limits) (line : Line) (last : List Written) (old new : Joint) : Type 0 where
  pub before : Stored
  pub after : Stored
  pub was : old.store ≡ with_changes before last
  pub is : new.store ≡ with_changes after last
  pub step : CommandStep limits (record { store = before; outside = old.outside line.core }) (number line.core line.session) line.verb line.reply
      (record { store = after; outside = new.outside line.core })
  pub unstored : (last ≡ []) ⊎ StoresNone before after
  pub others : OutsidesStay line.core old new

-- as it is, or as it was before some of its changes
abbrev pub AnswersEarlier : Limits → Line → Joint → Joint → Type 0
AnswersEarlier limits line old new = (last : List Written) × AnswersBehind limits line last old new

-- those of one core, in their order
abbrev pub of_core : ℕ → List Line → List Line
of_core k lines = filter (λ line. nat_eq line.core k) lines

-- lines, one after another
abbrev pub Runs : (Line → Joint → Joint → Type 0) → Joint → List Line → Joint → Type 0
Runs Does old [] new = new ≡ old
Runs Does old (line ∷ lines) new = (mid : Joint) × Does line old mid × Runs Does mid lines new

-- the line as a turn of the one store's sessions
abbrev pub IsTurnOf : Line → Turn → Type 0
IsTurnOf line turn = (turn.session ≡ number line.core line.session) × (turn.verb ≡ line.verb) × (turn.reply ≡ line.reply)

-- both have stored the same, whatever their sessions
abbrev pub HaveStoredSame : Stored → Stored → Type 0
HaveStoredSame a b = StoresNone a b

-- The one store is what n cores are together. It has stored all changes, in their order, behind the start; a core has stored the same
-- but for those that it lacks; each session is the one of its core, and what is outside of a core is that of the core.
pub record IsJointOf (n : ℕ) (w : World Name) (payloads : List Payload) (cores : Cores) (joint : Joint) : Type 0 where
  pub all : HaveStoredSame joint.store (with_changes (start w payloads) cores.changes)
  pub each : (i : ℕ) → i < n → HaveStoredSame joint.store (with_changes (cores.core i).state.store (lacks cores i))
  pub sessions : (i s : ℕ) → i < n → s < session_count → session joint.store (number i s) ≡ session (cores.core i).state.store s
  pub outsides : (i : ℕ) → i < n → joint.outside i ≡ (cores.core i).state.outside
