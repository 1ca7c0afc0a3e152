use Rattle.store_plans.proofs.FlushParts.{change-ready}
use Rattle.store_plans.proofs.changing.take_change.Goals as goal

pub returns-clause-ready : goal.returns-clause-ready
returns-clause-ready c = λ kind added v s.
    change-ready c.args.limits c.args.log.now c.add_change.new.log c.args.tables.now c.add_change.new.tables kind added c.args.change.now s c.if-change.false c.requires.limit c.add_change.ensures.room
    c.bytes.result.now c.bytes.ensures c.add_change.result c.add_change.ensures.enough (λ last m e. c.add_change.ensures.added added last v m e)
