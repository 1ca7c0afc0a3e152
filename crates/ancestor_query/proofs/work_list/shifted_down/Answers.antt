use Rattle.std.proofs.Common.{arith}
use Rattle.ancestor_query.proofs.WindowLemmas.{all-shifted}
use Rattle.ancestor_query.proofs.work_list.shifted_down.Goals as goal

pub returns-else-steps-lt-REACH : goal.returns-else-steps-lt-REACH
returns-else-steps-lt-REACH c = all-shifted c.args.bits c.args.steps c.ranges.bits.fits (let far = c.if-steps-lt-REACH.false in omega (arith, far))
