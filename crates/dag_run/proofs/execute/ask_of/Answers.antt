use Rattle.std.proofs.Common.{sym, ap, ◌∙◌}
use Rattle.step_rules.specs.Verb.{Flush, Strip}
use Rattle.command_lines.specs.Meant.{meant}
use Rattle.dag_run.proofs.execute.ask_of.Goals as goal

pub returns-in-Flush : goal.returns-in-Flush
returns-in-Flush c = sym (ap meant c.in-Flush.is ∙ ap Flush (sym c.names.ensures))

pub returns-in-Strip : goal.returns-in-Strip
returns-in-Strip c = sym (ap meant c.in-Strip.is ∙ ap Strip (sym c.names-in-Strip.ensures))
