use Rattle.remote_trait.specs.Marked.{has}
use Rattle.remote_trait.proofs.Items.{numbers-next, numbers-bad, all-end}
use Rattle.remote_trait.proofs.broken_heads.are_named.Goals as goal

pub ids-preserved : goal.ids-preserved
ids-preserved c = numbers-next (has c.args.named.now) c.args.ids.now c.ids.k c.ids.invariant c.ids-test.true c.if-not-contains.ensures

pub returns-then-not-contains : goal.returns-then-not-contains
returns-then-not-contains c = numbers-bad (has c.args.named.now) c.args.ids.now c.ids.k c.ids.invariant c.ids-test.true c.if-not-contains.ensures

pub returns : goal.returns
returns c = all-end (has c.args.named.now) c.args.ids.now c.ids.k c.ids.invariant c.ids-test.false
