use Rattle.line_io.proofs.First.{first-position}
use Rattle.line_io.proofs.lines.first_line_feed.Goals as goal

pub returns : goal.returns
returns c = first-position 10 c.args.bytes.now c.memchr.result c.memchr.ensures
