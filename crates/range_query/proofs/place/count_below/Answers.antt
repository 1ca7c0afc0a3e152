use Rattle.std.proofs.Common.{arith, ◌+◌, ◌-◌, ◌/◌}
use Rattle.segment_codec.specs.Lent.{segment_of}
use Rattle.segment_codec.proofs.Tables.{lawful-rising}
use Rattle.range_query.proofs.Rows.{halves-above, halves-below, halves-done}
use Rattle.range_query.proofs.place.count_below.Goals as goal

pub halve-preserved-then-number : goal.halve-preserved-then-number
halve-preserved-then-number g c =
    let flats = g.T.SegmentTable.flats c.args.table.now in
    let rising = lawful-rising flats (g.met.T.SegmentTable.lawful c.args.table.now) in
    let test = c.halve-test.true in
    record {
      counted = let k = c.flat_at-segment.ensures.tick in let b = c.halve.invariant.counted in omega arith;
      halves = halves-above flats rising c.args.id c.halve.low (c.halve.low + (c.halve.high - c.halve.low) / 2) c.halve.high (segment_of c.flat_at-segment.result) c.halve.invariant.halves
          (omega arith) (omega arith) c.flat_at-segment.ensures.found (c.halve.low + (c.halve.high - c.halve.low) / 2 + 1) (omega arith) (omega arith);
    }

pub halve-preserved : goal.halve-preserved
halve-preserved g c =
    let flats = g.T.SegmentTable.flats c.args.table.now in
    let rising = lawful-rising flats (g.met.T.SegmentTable.lawful c.args.table.now) in
    let test = c.halve-test.true in
    record {
      counted = let k = c.flat_at-segment.ensures.tick in let b = c.halve.invariant.counted in omega arith;
      halves = halves-below flats rising c.args.id c.halve.low (c.halve.low + (c.halve.high - c.halve.low) / 2) c.halve.high (segment_of c.flat_at-segment.result) c.halve.invariant.halves
          (omega arith) (omega arith) c.flat_at-segment.ensures.found (omega arith);
    }

pub returns-clause-place : goal.returns-clause-place
returns-clause-place g c =
    let flats = g.T.SegmentTable.flats c.args.table.now in
    halves-done flats c.args.id c.halve.low c.halve.high c.halve-test.false c.halve.invariant.halves
