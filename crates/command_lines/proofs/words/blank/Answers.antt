use Rattle.line_io.proofs.First.{first-position}
use Rattle.command_lines.proofs.words.blank.Goals as goal

pub returns : goal.returns
returns c = first-position 32 c.args.text.now c.memchr.result c.memchr.ensures
