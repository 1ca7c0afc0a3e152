use Rattle.std.proofs.Common.{arith}
use Rattle.range_query.proofs.PassLemmas.{lack-none, lack-same}
use Rattle.range_query.proofs.child_walk.pass_level.Goals as goal

pub returns-in-Some-clause-none : goal.returns-in-Some-clause-none
returns-in-Some-clause-none g c = lack-same (g.T.SegmentTable.flats c.args.table.now) c.args.rest.set.now c.in-Some.segment.low _ c.args.id (omega arith) c.in-Some.ensures.none.1

pub returns-in-None-clause-none : goal.returns-in-None-clause-none
returns-in-None-clause-none g c = lack-none (g.T.SegmentTable.flats c.args.table.now) c.args.rest.set.now _ c.args.id (omega arith)
