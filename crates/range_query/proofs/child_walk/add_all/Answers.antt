use Rattle.std.proofs.Common.{arith}
use Rattle.range_query.proofs.EdgeLemmas.{all-whole}
use Rattle.range_query.proofs.child_walk.add_all.Goals as goal

pub returns-clause-members : goal.returns-clause-members
returns-clause-members g c =
    let number = c.number.ensures.number in
    all-whole (g.T.SegmentTable.flats c.args.table.now) (g.met.T.SegmentTable.lawful c.args.table.now) c.args.set.now c.args.answer.now c.add_by_edges.new.answer c.add_from.new.answer
    c.args.lowest c.in_ok-known.known c.max-low.result c.requires.empty c.requires.lowest (omega (arith, c.max-low.ensures, number))
    c.in_ok-known.ensures.sound c.in_ok-known.ensures.whole c.in_ok-add_from.ensures.sound c.in_ok-add_from.ensures.whole c.in_ok-add_from.ensures.kept
