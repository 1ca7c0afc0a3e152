use Rattle.std.proofs.Common.{arith}
use Rattle.range_query.proofs.ChildLemmas.{lacks-none}
use Rattle.range_query.proofs.child_walk.add_next.Goals as goal

pub returns-then-low-number-clause-members : goal.returns-then-low-number-clause-members
returns-then-low-number-clause-members g c = lacks-none (g.T.SegmentTable.flats c.args.table.now) (g.met.T.SegmentTable.lawful c.args.table.now) c.args.rest.set.now c.args.answer.now
    c.pass-low.result c.pass-low.result c.args.id (omega arith) c.pass-low.ensures.none
