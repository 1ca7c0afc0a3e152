-- The calls that are to be performed.
use Rattle.std.specs.Prelude.{ℕ, List, [], ◌∷◌, Option, None, Some, map}
use Rattle.call_disk.specs.declared.noted.NotedCall.{NotedCall}
use Rattle.call_disk.specs.declared.noted.NotedCall.TheVariants as noted
use Rattle.call_disk.specs.declared.noted.Noted.{Noted}

-- a write of these bytes from that place on, or a sync
pub data Call : Type 0 where
  Write : ℕ → List ℕ → Call
  Sync : Call

-- what was noted of a call
abbrev pub call_of : NotedCall → Call
call_of (noted.Write at piece) = Write at piece.items
call_of noted.Sync = Sync

abbrev pub said_of : Option NotedCall → Option Call
said_of None = None
said_of (Some call) = Some (call_of call)

-- a call that was noted, behind so many that changed nothing
pub record Step : Type 0 where
  pub idle : ℕ
  pub call : Call

abbrev pub step_of : Noted → Step
step_of noted = record { idle = noted.idle; call = call_of noted.call }

-- of all that were noted, in this order
abbrev pub steps_of : List Noted → List Step
steps_of noted = map step_of noted

-- the calls alone
abbrev pub calls_in : List Step → List Call
calls_in steps = map (λ (step : Step). step.call) steps

abbrev pub calls_of : List Noted → List Call
calls_of noted = map (λ (n : Noted). call_of n.call) noted

-- the first of them, and those behind it
abbrev pub first_call : List Call → Option Call
first_call [] = None
first_call (call ∷ calls) = Some call

abbrev pub behind_first : List Call → List Call
behind_first [] = []
behind_first (call ∷ calls) = calls
