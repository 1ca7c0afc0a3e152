use Rattle.plain_query.proofs.Gathering.{adds-none, adds-more, adds-all}
use Rattle.plain_query.proofs.members.Members.add_all.Goals as goal

pub loop-name-init : goal.loop-name-init
loop-name-init c = adds-none c.args.self.now

pub loop-name-preserved : goal.loop-name-preserved
loop-name-preserved c =
    adds-more c.args.self.now c.loop-name.self c.add.new.self c.args.names.now c.loop-name.name-index c.name-item.result c.loop-name-test.true c.name-item.is
    c.loop-name.invariant c.in_ok-add.ensures

pub returns : goal.returns
returns c = adds-all c.args.self.now c.loop-name.self c.args.names.now c.loop-name.name-index c.loop-name-test.false c.loop-name.invariant
