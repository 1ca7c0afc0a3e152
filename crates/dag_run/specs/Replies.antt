-- The replies that the store's answers are.
use Rattle.std.specs.Prelude.{ℕ, ◌≡◌, ◌≤◌, List, Option, Result, Ok, Err, MatchResult, false, length}
use Rattle.span_set.specs.Members.{ids_of}
use Rattle.set_query.specs.declared.evaluation.Answer.{Answer}
use Rattle.step_rules.specs.declared.Refusal.{Refusal}
use Rattle.step_rules.specs.declared.Refusal.TheVariants as why
use Rattle.step_rules.specs.Reply.{Reply, Flushed, Stripped, Cloned, Pulled, Counted, Refused, NoCommand}
use Rattle.step_rules.specs.Verb.{Verb}
use Rattle.step_rules.specs.Step.{MayWantMemory}
use Rattle.run_rules.specs.Grammar.{SpellsCommand}
use Rattle.line_io.specs.Lines.{is_empty_or_comment}
use Rattle.dag_store.specs.declared.asks.Ask.{Ask}
use Rattle.dag_store.specs.declared.asks.Ask.TheVariants as asks
use Rattle.dag_store.specs.declared.replies.Counts.{Counts}
use Rattle.dag_store.specs.Kept.{PlainStore}
use Rattle.command_lines.specs.Meant.{meant}
use Rattle.command_lines.specs.declared.command.Command.{Command}
use Rattle.dag_run.specs.Lines.{LineSides, TellsLine}
use Rattle.dag_run.specs.declared.stops.Stop.{Stop}
use Rattle.command_lines.specs.declared.command.CommandFault.{CommandFault}
use Rattle.command_lines.specs.declared.command.CommandFault.TheVariants.{Syntax, Memory}

-- of a change that is done, of these sizes
abbrev pub reply_of_change : Ask → Counts → Reply
reply_of_change (asks.Flush heads) counts = Flushed counts.master counts.others
reply_of_change (asks.Strip names) counts = Stripped counts.master counts.others
reply_of_change asks.Clone counts = Cloned counts.master
reply_of_change asks.Pull counts = Pulled counts.master counts.others

abbrev pub reply_of_count : Result Answer Refusal → Reply
reply_of_count (Ok answer) = Counted (length (ids_of answer.set))
reply_of_count (Err refusal) = Refused refusal

abbrev pub reply_of_fault : CommandFault → Reply
reply_of_fault Syntax = NoCommand
reply_of_fault Memory = Refused why.Memory

-- why a text is read as no command: it spells none, or the memory for one was wanting
pub record IsUnreadFor (text : List ℕ) (fault : CommandFault) : Type 0 where
  pub syntax : fault ≡ Syntax → (s : ℕ) (verb : Verb) → SpellsCommand text s verb → ⊥
  pub memory : fault ≡ Memory → (s : ℕ) (verb : Verb) → SpellsCommand text s verb → MayWantMemory verb

-- what is told of a line that isn't too long
abbrev pub TellsShort : PlainStore → List ℕ → LineSides → List ℕ → Option ℕ → Result PlainStore Stop → List ℕ → List ℕ → Type 0
TellsShort kept text x payload clock result before now = length text ≤ 16384 → TellsLine kept text x payload clock result before now

-- and of what was read so of such a line that gets a reply
abbrev pub TellsParsed : PlainStore → Result Command CommandFault → LineSides → List ℕ → Option ℕ → Result PlainStore Stop → List ℕ → List ℕ → Type 0
TellsParsed kept parsed x payload clock result before now =
    (text : List ℕ) → is_empty_or_comment text ≡ false → length text ≤ 16384
    → MatchResult parsed (λ command. SpellsCommand text command.session (meant command.verb)) (IsUnreadFor text)
    → TellsLine kept text x payload clock result before now
