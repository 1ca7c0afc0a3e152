-- Several stores over one list of changes: each takes what the others have stored, and what it stores comes behind.
use Rattle.std.specs.Prelude.{◌≡◌, ◌≢◌, ◌<◌, ◌⊎◌, ⊤, ℕ, suc, List, [], ◌∷◌, ◌++◌, drop, map}
use Rattle.id_groups.specs.Name.{Name}
use Rattle.commit_graph.specs.World.{World}
use Rattle.batch_codec.specs.Payload.{Payload}
use Rattle.change_rules.specs.declared.Limits.{Limits}
use Rattle.change_rules.specs.Change.{text_of}
use Rattle.step_rules.specs.State.{State, Stored, Outside, session_count, start, with_stored, worlds}
use Rattle.step_rules.specs.Verb.{Verb}
use Rattle.step_rules.specs.Reply.{Reply}
use Rattle.step_rules.specs.Step.{CommandStep}

-- what was stored: a payload, and the world that is stored by it
pub record Written : Type 0 where
  pub payload : Payload
  pub world : World Name

-- what is stored once this is taken: its world is the newest, and each session stays where it is
abbrev pub with_change : Stored → Written → Stored
with_change st x = with_stored st x.world x.payload

-- once all of these are
abbrev pub with_changes : Stored → List Written → Stored
with_changes st [] = st
with_changes st (x ∷ more) = with_changes (with_change st x) more

-- the texts of their payloads
abbrev pub texts_in : List Written → List (List ℕ)
texts_in changes = map (λ x. text_of x.payload) changes

-- a core: how many of the changes it has taken, its own among them, and the state that its store stands for
pub record Core : Type 0 where
  pub took : ℕ
  pub state : State

-- the changes that were stored since the start, oldest first, and the cores by their numbers
pub record Cores : Type 0 where
  pub changes : List Written
  pub core : ℕ → Core

-- the changes that the core hasn't taken
abbrev pub lacks : Cores → ℕ → List Written
lacks cores i = drop (cores.core i).took cores.changes

-- at the start no change was stored, and each core has loaded the same log of the same world, with what is outside of its own
abbrev pub at_first : World Name → List Payload → (ℕ → Outside) → Cores
at_first w payloads outside = record {
  changes = [];
  core = λ i. record { took = 0; state = record { store = start w payloads; outside = outside i } };
}

-- the other cores are as they were
abbrev pub OthersStay : ℕ → Cores → Cores → Type 0
OthersStay i old new = (k : ℕ) → k ≢ i → new.core k ≡ old.core k

-- the core takes the first change that it lacks
pub record TakesNext (i : ℕ) (old new : Cores) : Type 0 where
  pub change : Written
  pub rest : List Written
  pub lacked : lacks old i ≡ change ∷ rest
  pub changes : new.changes ≡ old.changes
  pub core : new.core i ≡ record {
    took = suc (old.core i).took;
    state = record { store = with_change (old.core i).state.store change; outside = (old.core i).state.outside };
  }
  pub others : OthersStay i old new

-- nothing is stored, or this is
abbrev pub StoresNone : Stored → Stored → Type 0
StoresNone old new = (new.past ≡ old.past) × (new.stored ≡ old.stored) × (new.payloads ≡ old.payloads)

abbrev pub StoresThis : Written → Stored → Stored → Type 0
StoresThis x old new = (new.past ≡ worlds old) × (new.stored ≡ x.world) × (new.payloads ≡ old.payloads ++ x.payload ∷ [])

-- what a core stores comes behind the changes, and it has to have taken all of them
abbrev pub Publishes : ℕ → Cores → Cores → Type 0
Publishes i old new =
    (StoresNone (old.core i).state.store (new.core i).state.store × (new.changes ≡ old.changes) × ((new.core i).took ≡ (old.core i).took))
    ⊎ ((x : Written) × StoresThis x (old.core i).state.store (new.core i).state.store × (lacks old i ≡ [])
    × (new.changes ≡ old.changes ++ x ∷ []) × ((new.core i).took ≡ suc (old.core i).took))

-- a command of a session of a core, with its reply
pub record Line : Type 0 where
  pub core : ℕ
  pub session : ℕ
  pub verb : Verb
  pub reply : Reply

-- the line is carried out by its core, by the definition of a store with sixteen sessions
pub record Does (limits : Limits) (n : ℕ) (line : Line) (old new : Cores) : Type 0 where
  pub is_core : line.core < n
  pub is_session : line.session < session_count
  pub step : CommandStep limits (old.core line.core).state line.session line.verb line.reply (new.core line.core).state
  pub publishes : Publishes line.core old new
  pub others : OthersStay line.core old new

-- a move of a core: it takes the next change, or carries out a line
pub data Move : Type 0 where
  Take : ℕ → Move
  Say : Line → Move

-- the lines among these moves, in their order
abbrev pub lines_in : List Move → List Line
lines_in [] = []
lines_in (Take i ∷ moves) = lines_in moves
lines_in (Say line ∷ moves) = line ∷ lines_in moves

-- Moves of n cores, one after another, each line where it may be carried out.
abbrev pub Go : Limits → ℕ → (Cores → Line → Type 0) → Cores → List Move → Cores → Type 0
Go limits n May old [] new = new ≡ old
Go limits n May old (Take i ∷ moves) new = (mid : Cores) × (i < n) × TakesNext i old mid × Go limits n May mid moves new
Go limits n May old (Say line ∷ moves) new = (mid : Cores) × May old line × Does limits n line old mid × Go limits n May mid moves new

-- the line's core has taken all changes
abbrev pub IsCurrent : Cores → Line → Type 0
IsCurrent cores line = lacks cores line.core ≡ []

-- it may be behind
abbrev pub IsAny : Cores → Line → Type 0
IsAny cores line = ⊤
