use Rattle.command_lines.proofs.PutLemmas.{id_text-short}
use Rattle.command_lines.proofs.reply_line.printed.Goals as goal

pub returns-clause-short : goal.returns-clause-short
returns-clause-short c = rw c.print.ensures (id_text-short c.args.id (rw c.number-small.ensures.number at c.number-small.ensures.small))
