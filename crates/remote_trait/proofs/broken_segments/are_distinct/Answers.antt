use Rattle.remote_trait.proofs.Items.{distinct-next, distinct-bad, distinct-end}
use Rattle.remote_trait.proofs.broken_segments.are_distinct.Goals as goal

pub returns-then-contains : goal.returns-then-contains
returns-then-contains c = distinct-bad c.args.numbers.now c.numbers.k c.numbers.invariant c.numbers-test.true c.split_at.result.1.now c.split_at.ensures.back c.if-contains.ensures.value

pub numbers-preserved : goal.numbers-preserved
numbers-preserved c = distinct-next c.args.numbers.now c.numbers.k c.numbers.invariant c.numbers-test.true c.split_at.result.1.now c.split_at.ensures.back c.if-contains.ensures.value

pub returns : goal.returns
returns c = distinct-end c.args.numbers.now c.numbers.k c.numbers.invariant c.numbers-test.false
