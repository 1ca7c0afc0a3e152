use Rattle.std.proofs.Common.{arith, refl}
use Rattle.segment_codec.specs.Lent.{segment_of}
use Rattle.ancestor_query.proofs.Best.{best-lower}
use Rattle.ancestor_query.proofs.jump.next_lower.Goals as goal

pub returns-then-number-clause-best : goal.returns-then-number-clause-best
returns-then-number-clause-best g c =
    let lt = c.if-number.true in let a = c.low.ensures in let b = c.low-in-Some.ensures in let m = c.number.ensures.number in let n = c.number-in-Some.ensures.number in
    best-lower (g.T.SegmentTable.flats c.args.table.now) (g.T.SegmentTable.ending_at c.args.table.now) c.args.id (g.met.T.SegmentTable.lawful c.args.table.now) c.levels.level _ refl (segment_of c.args.best.now) c.in-Some.segment
    c.levels.invariant.best c.in-Some.ensures.found (omega (arith, lt, a, b, m, n)) (λ s e. g.met.T.SegmentTable.endings c.args.table.now c.levels.level c.args.id s e)
