use Rattle.std.proofs.Common.{arith}
use Rattle.segment_codec.specs.Lent.{segment_of}
use Rattle.ancestor_query.proofs.Best.{found-at, best-start, best-last, lacks-before}
use Rattle.ancestor_query.proofs.jump.best_jump.Goals as goal

pub longer-init : goal.longer-init
longer-init g c =
    let flats = g.T.SegmentTable.flats c.args.table.now in
    let found = found-at flats c.args.id c.flat.result c.unwrap-best.result c.unwrap-best.ensures c.flat.ensures.found in
    record {
      within = omega arith;
      best = best-start flats (g.T.SegmentTable.ending_at c.args.table.now) c.args.id (g.met.T.SegmentTable.lawful c.args.table.now) (segment_of c.unwrap-best.result) found;
      counted = let t = c.flat.ensures.tick in omega arith;
      looked = let t = c.flat.ensures.tick in omega arith;
      few = let t = c.flat.ensures.tick in omega arith;
    }

pub returns-clause-best : goal.returns-clause-best
returns-clause-best g c =
    let lacks = lacks-before (segment_of c.longer.best) c.may_begin_lower.result c.may_begin_lower.ensures c.longer-test.false in
    best-last (g.T.SegmentTable.flats c.args.table.now) (g.T.SegmentTable.ending_at c.args.table.now) c.args.id (g.met.T.SegmentTable.lawful c.args.table.now) c.longer.level 8 (segment_of c.longer.best) c.longer.invariant.best
    lacks (λ level s e. g.met.T.SegmentTable.endings c.args.table.now level c.args.id s e)
