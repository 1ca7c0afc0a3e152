use Rattle.std.proofs.Common.{arith}
use Rattle.range_query.proofs.Spelled.{in-short, in-long}
use Rattle.range_query.proofs.flat_pass.first_byte.Goals as goal

pub returns-then-number-lt-MORE : goal.returns-then-number-lt-MORE
returns-then-number-lt-MORE c = in-short c.number-number.result c.args.id (omega (arith, c.number-number.ensures.number)) c.if-number-lt-MORE.true

pub returns : goal.returns
returns c = in-long c.number-number.result c.args.id (omega (arith, c.number-number.ensures.number)) (omega (arith, c.if-number-lt-MORE.false)) (omega (arith, c.number-number.ensures.small))
