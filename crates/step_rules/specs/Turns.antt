-- Commands of many sessions, one after another.
use Rattle.std.specs.Prelude.{◌≡◌, ℕ, List, [], ◌∷◌, filter, nat_eq}
use Rattle.change_rules.specs.declared.Limits.{Limits}
use Rattle.step_rules.specs.State.{State}
use Rattle.step_rules.specs.Verb.{Verb}
use Rattle.step_rules.specs.Reply.{Reply}
use Rattle.step_rules.specs.Step.{CommandStep}

-- a session's command with its reply, and the states before it and after
pub record Turn : Type 0 where
  pub session : ℕ
  pub verb : Verb
  pub reply : Reply
  pub before : State
  pub after : State

-- each command is a step from the state to which the one before it led, the first from this one
abbrev pub AreTurns : Limits → State → List Turn → Type 0
AreTurns limits st [] = Unit {0}
AreTurns limits st (t ∷ more) =
    (t.before ≡ st) × CommandStep limits t.before t.session t.verb t.reply t.after × AreTurns limits t.after more

-- those of one session
abbrev pub turns_of : ℕ → List Turn → List Turn
turns_of s turns = filter (λ t. nat_eq t.session s) turns
