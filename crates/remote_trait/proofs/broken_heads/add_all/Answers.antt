use Rattle.remote_trait.specs.Marked.{has}
use Rattle.remote_trait.proofs.Items.{number-more}
use Rattle.remote_trait.proofs.broken_heads.add_all.Goals as goal

pub numbers-preserved : goal.numbers-preserved
numbers-preserved c = number-more c.args.numbers.now c.numbers.k c.numbers-test.true (has c.args.set.now) (has c.numbers.set) (has c.insert.new.self) c.numbers.invariant c.in_ok-insert.ensures
