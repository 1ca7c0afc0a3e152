use Rattle.std.proofs.Common.{arith, ◌+◌, ap, length, subst}
use Rattle.segment_codec.specs.Lent.{segment_of}
use Rattle.range_query.specs.Cuts.{IsSettled}
use Rattle.range_query.proofs.Rows.{at-drop}
use Rattle.range_query.proofs.ChildLemmas.{group-at}
use Rattle.range_query.proofs.DescendantLemmas.{below-on, within-on, stand-none, within-none}
use Rattle.range_query.proofs.RangeLemmas.{misses-none, misses-over, misses-more, misses-stop, misses-settled, misses-whole}
use Rattle.range_query.proofs.between.add_all_missed.Goals as goal

pub up-init : goal.up-init
up-init g c =
    let flats = g.T.SegmentTable.flats c.args.table.now in
    let lawful = g.met.T.SegmentTable.lawful c.args.table.now in
    let r = c.requires in
    record {
      within_from = omega (arith, ap length c.spans.ensures.same);
      within_below = omega (arith, ap length c.spans-2.ensures.same);
      within_cuts = omega (arith, c.len-left.ensures);
      counted = c.count_below-first.ensures.counted;
      passed = λ s i. stand-none s.low (length c.spans.result.now) c.spans.result.now c.args.from.now c.spans.ensures.same (omega arith);
      begun = λ s i. within-none s.high (length c.spans-2.result.now) c.spans-2.result.now c.args.below.now.ids c.spans-2.ensures.same (omega arith);
      misses = misses-none flats lawful c.args.from.now c.args.lowest c.args.below.now.ids r.least r.over r.inside r.closed c.count_below-first.result c.args.missed.now
          c.requires.missed c.count_below-first.ensures.place;
    }

pub returns-then-number-clause-whole : goal.returns-then-number-clause-whole
returns-then-number-clause-whole g c =
    let flats = g.T.SegmentTable.flats c.args.table.now in
    let lawful = g.met.T.SegmentTable.lawful c.args.table.now in
    let r = c.requires in
    misses-stop flats lawful c.args.from.now c.args.lowest c.args.below.now.ids r.least r.over r.inside r.closed c.up.k (segment_of c.flat_at-segment.result) c.flat_at-segment.ensures.found
    c.up.missed c.up.invariant.misses c.in-Some.greatest c.in-Some.ensures.1
    (omega (arith, c.if-number.true, c.low-low.ensures, c.number.ensures.number, c.number-in-up.ensures.number))

pub returns-then-is_settled-clause-whole : goal.returns-then-is_settled-clause-whole
returns-then-is_settled-clause-whole g c =
    let flats = g.T.SegmentTable.flats c.args.table.now in
    let lawful = g.met.T.SegmentTable.lawful c.args.table.now in
    let r = c.requires in
    misses-settled flats lawful c.args.from.now c.args.lowest c.args.below.now.ids r.least r.over r.inside r.closed c.up.k (segment_of c.flat_at-segment.result) c.flat_at-segment.ensures.found
    c.up.missed c.up.invariant.misses c.args.below.now.cuts.items r.cuts
    (subst (IsSettled c.up.missed c.args.lowest c.args.below.now.cuts.items) c.low-low.ensures
    (subst (λ l. IsSettled c.up.missed c.args.lowest l c.low-low.result) c.deref.ensures.value (c.is_settled.ensures c.if-is_settled.true)))

pub add_missed-requires-clause-passed : goal.add_missed-requires-clause-passed
add_missed-requires-clause-passed g c =
    let flats = g.T.SegmentTable.flats c.args.table.now in
    let s = segment_of c.flat_at-segment.result in
    c.up.invariant.passed s (at-drop flats c.up.k s c.flat_at-segment.ensures.found)

pub add_missed-requires-clause-begun : goal.add_missed-requires-clause-begun
add_missed-requires-clause-begun g c =
    let flats = g.T.SegmentTable.flats c.args.table.now in
    let s = segment_of c.flat_at-segment.result in
    c.up.invariant.begun s (at-drop flats c.up.k s c.flat_at-segment.ensures.found)

pub add_missed-requires-clause-over : goal.add_missed-requires-clause-over
add_missed-requires-clause-over g c =
    let flats = g.T.SegmentTable.flats c.args.table.now in
    let lawful = g.met.T.SegmentTable.lawful c.args.table.now in
    let r = c.requires in
    misses-over flats lawful c.args.from.now c.args.lowest c.args.below.now.ids r.least r.over r.inside r.closed c.up.k (segment_of c.flat_at-segment.result) c.flat_at-segment.ensures.found
    c.up.missed c.up.invariant.misses

pub add_missed-requires-clause-group : goal.add_missed-requires-clause-group
add_missed-requires-clause-group g c =
    let flats = g.T.SegmentTable.flats c.args.table.now in
    let lawful = g.met.T.SegmentTable.lawful c.args.table.now in
    group-at flats lawful c.args.from.now c.up.k (segment_of c.flat_at-segment.result) c.flat_at-segment.ensures.found

pub up-preserved : goal.up-preserved
up-preserved g c =
    let flats = g.T.SegmentTable.flats c.args.table.now in
    let lawful = g.met.T.SegmentTable.lawful c.args.table.now in
    let s = segment_of c.flat_at-segment.result in
    let found = c.flat_at-segment.ensures.found in
    let r = c.requires in
    let e = c.in_ok-passed.ensures in
    record {
      within_from = e.within_from;
      within_below = e.within_below;
      within_cuts = let w = c.up.invariant.within_cuts in omega (arith, c.skip_cuts-left.ensures);
      counted = let k = c.flat_at-segment.ensures.tick in let b = c.up.invariant.counted in omega arith;
      passed = below-on flats lawful c.up.k s found (c.up.k + 1) _ (omega arith) e.passed;
      begun = within-on flats lawful c.up.k s found (c.up.k + 1) _ (omega arith) e.begun;
      misses = misses-more flats lawful c.args.from.now c.args.lowest c.args.below.now.ids r.least r.over r.inside r.closed c.up.k s found c.up.missed c.up.invariant.misses (c.up.k + 1)
          c.add_missed.new.missed (omega arith) e.kept e.sound e.whole;
    }

pub returns-clause-whole : goal.returns-clause-whole
returns-clause-whole g c =
    let flats = g.T.SegmentTable.flats c.args.table.now in
    let lawful = g.met.T.SegmentTable.lawful c.args.table.now in
    let r = c.requires in
    misses-whole flats lawful c.args.from.now c.args.lowest c.args.below.now.ids r.least r.over r.inside r.closed c.up.k c.up.missed
    (omega (arith, c.up-test.false, c.flat_count-k-end.ensures)) c.up.invariant.misses
