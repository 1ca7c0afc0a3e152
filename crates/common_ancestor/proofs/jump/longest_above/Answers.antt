use Rattle.std.proofs.Common.{arith}
use Rattle.segment_codec.specs.Lent.{segment_of}
use Rattle.common_ancestor.proofs.Jumps.{jump-flat, jump-ending}
use Rattle.common_ancestor.proofs.jump.longest_above.Goals as goal

pub levels-init : goal.levels-init
levels-init g c = record {
  best = jump-flat (g.T.SegmentTable.flats c.args.table.now) (g.met.T.SegmentTable.lawful c.args.table.now) c.args.id c.args.floor (segment_of c.args.flat) c.requires;
  counted = omega arith;
}

pub levels-preserved : goal.levels-preserved
levels-preserved g c = record {
  best = jump-ending (g.T.SegmentTable.flats c.args.table.now) (g.met.T.SegmentTable.lawful c.args.table.now) c.args.id c.args.floor (segment_of c.in-Some.other) c.levels.level
      (g.met.T.SegmentTable.endings c.args.table.now c.levels.level c.args.id (segment_of c.in-Some.other) c.in-Some.ensures.found) (c.is_better.ensures c.if-not-is_better.false);
  counted = let t = c.ending.ensures.tick in let f = c.levels.invariant.counted in omega arith;
}
