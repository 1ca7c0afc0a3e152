use Rattle.std.proofs.Common.{arith, sym, subst, take}
use Rattle.segment_codec.specs.Lent.{segment_of}
use Rattle.ancestor_query.proofs.Graphs.{ending-segment, ending-jump}
use Rattle.range_query.specs.Parts.{StandFrom}
use Rattle.range_query.proofs.ChildLemmas.{apart-lacks}
use Rattle.range_query.proofs.Climbing.{ending-ascends}
use Rattle.range_query.proofs.child_walk.childless_ending.Goals as goal

pub is_apart-requires-clause-passed : goal.is_apart-requires-clause-passed
is_apart-requires-clause-passed g c =
    let flats = g.T.SegmentTable.flats c.args.table.now in
    let lawful = g.met.T.SegmentTable.lawful c.args.table.now in
    let s = segment_of c.in-Some.segment in
    let end = g.met.T.SegmentTable.endings c.args.table.now c.level-in-levels.result c.args.id s c.in-Some.ensures.found in
    subst (λ n. StandFrom n (take c.args.rest.at c.args.rest.set.now)) (sym (ending-segment flats lawful c.level-in-levels.result c.args.id s end).1) c.requires.passed

pub returns-then-is_apart-clause-none : goal.returns-then-is_apart-clause-none
returns-then-is_apart-clause-none g c =
    let flats = g.T.SegmentTable.flats c.args.table.now in
    let lawful = g.met.T.SegmentTable.lawful c.args.table.now in
    let s = segment_of c.in-Some.segment in
    let end = g.met.T.SegmentTable.endings c.args.table.now c.level-in-levels.result c.args.id s c.in-Some.ensures.found in
    let jump = ending-jump flats lawful c.level-in-levels.result c.args.id s end in
    (jump.order, apart-lacks flats lawful c.args.rest.set.now s c.args.id jump (ending-segment flats lawful c.level-in-levels.result c.args.id s end).1 (c.is_apart.ensures c.if-is_apart.true))

pub is_apart-requires-clause-ascending : goal.is_apart-requires-clause-ascending
is_apart-requires-clause-ascending g c =
    let s = segment_of c.in-Some.segment in
    let same = c.level-in-levels.ensures.same in let first = c.level.ensures.same in let test = c.levels-test.true in
    ending-ascends (g.T.SegmentTable.flats c.args.table.now) c.level-in-levels.result c.args.id s (omega arith)
    (g.met.T.SegmentTable.endings c.args.table.now c.level-in-levels.result c.args.id s c.in-Some.ensures.found)
