-- Steps of lines.
use Rattle.std.proofs.Common.{ℕ, ◌≡◌, inl, inr, true, false, List, Ok, Err, IfOk, MatchResult, refl, sym, ap, subst}
use Rattle.std.specs.declared.result.Result.{Result}
use Rattle.line_io.specs.Lines.{is_too_long}
use Rattle.change_rules.specs.declared.Limits.{Limits}
use Rattle.step_rules.specs.State.{State}
use Rattle.step_rules.specs.Verb.{Verb}
use Rattle.step_rules.specs.Reply.{Reply, Refused, NoCommand, LongLine}
use Rattle.step_rules.specs.declared.Refusal.TheVariants as why
use Rattle.step_rules.specs.Step.{CommandStep, MayWantMemory}
use Rattle.run_rules.specs.Grammar.{SpellsCommand}
use Rattle.run_rules.specs.Run.{Step}
use Rattle.dag_run.specs.Replies.{IsUnreadFor, reply_of_fault}
use Rattle.command_lines.specs.declared.command.CommandFault.{CommandFault}
use Rattle.command_lines.specs.declared.command.CommandFault.TheVariants as faults

-- what was read of a text, by cases
pub read-of : {C : Type 0} (Spells : C → Type 0) (text : List ℕ) (result : Result C CommandFault) → IfOk result Spells → (result ≡ Err faults.Syntax → (s : ℕ) (verb : Verb) → SpellsCommand text s verb → ⊥)
    → (result ≡ Err faults.Memory → (s : ℕ) (verb : Verb) → SpellsCommand text s verb → MayWantMemory verb) → MatchResult result Spells (IsUnreadFor text)
read-of Spells text (Ok command) ok none may = ok
read-of Spells text (Err fault) ok none may = record { syntax = λ e. none (ap Err e); memory = λ e. may (ap Err e) }

module _ (limits : Limits) (st : State) (line : List ℕ) where
  -- a session's command
  pub command-step : (s : ℕ) (verb : Verb) (reply : Reply) (next : State) → SpellsCommand line s verb → is_too_long line ≡ false → CommandStep limits st s verb reply next → Step limits st line reply next
  command-step s verb reply next spells short step = rw short (inl (s, verb, spells, step))

  syntax-step : is_too_long line ≡ false → ((s : ℕ) (verb : Verb) → SpellsCommand line s verb → ⊥) → Step limits st line NoCommand st
  syntax-step short none = rw short (inr (inl (none, refl, refl)))

  memory-step : is_too_long line ≡ false → ((s : ℕ) (verb : Verb) → SpellsCommand line s verb → MayWantMemory verb) → Step limits st line (Refused why.Memory) st
  memory-step short may = rw short (inr (inr (may, refl, refl)))

  -- a line that can't be read
  pub fault-step : (fault : CommandFault) (reply : Reply) → is_too_long line ≡ false → reply ≡ reply_of_fault fault → (fault ≡ faults.Syntax → (s : ℕ) (verb : Verb) → SpellsCommand line s verb → ⊥)
      → (fault ≡ faults.Memory → (s : ℕ) (verb : Verb) → SpellsCommand line s verb → MayWantMemory verb) → Step limits st line reply st
  fault-step fault reply short e none may = subst (λ r. Step limits st line r st) (sym e) (by_fault fault none may)
    where
      by_fault : (fault : CommandFault) → (fault ≡ faults.Syntax → (s : ℕ) (verb : Verb) → SpellsCommand line s verb → ⊥) → (fault ≡ faults.Memory → (s : ℕ) (verb : Verb) → SpellsCommand line s verb → MayWantMemory verb)
          → Step limits st line (reply_of_fault fault) st
      by_fault faults.Syntax none may = syntax-step short (none refl)
      by_fault faults.Memory none may = memory-step short (may refl)

  pub long-step : is_too_long line ≡ true → Step limits st line LongLine st
  long-step long = rw long (refl, refl)
