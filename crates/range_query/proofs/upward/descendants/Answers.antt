use Rattle.std.proofs.Common.{arith, ℕ, ◌+◌, ◌≤◌, subst, ap, length}
use Rattle.segment_codec.specs.Lent.{segment_of}
use Rattle.span_set.specs.Members.{IsMember}
use Rattle.range_query.proofs.Rows.{at-drop}
use Rattle.range_query.proofs.ChildLemmas.{group-at}
use Rattle.range_query.proofs.DescendantLemmas.{desc-none, desc-more, desc-whole, stand-over, below-on, stand-none}
use Rattle.range_query.proofs.upward.descendants.Goals as goal

pub up-init : goal.up-init
up-init g c =
    let flats = g.T.SegmentTable.flats c.args.table.now in
    let lawful = g.met.T.SegmentTable.lawful c.args.table.now in
    record {
      within = omega (arith, ap length c.spans-left.ensures.same);
      counted = c.count_below-from.ensures.counted;
      passed = λ s i. stand-none s.low (length c.spans-left.result.now) c.spans-left.result.now c.args.set.now c.spans-left.ensures.same (omega arith);
      exact = desc-none flats lawful c.args.set.now c.in-Some.lowest c.count_below-from.result c.empty-answer.result c.empty-answer.ensures c.count_below-from.ensures.place
          (subst (λ l. (x : ℕ) → IsMember l x → c.in-Some.lowest ≤ x) c.spans.ensures.same c.in-Some.ensures.1);
    }

pub add_part-requires-clause-passed : goal.add_part-requires-clause-passed
add_part-requires-clause-passed g c =
    let flats = g.T.SegmentTable.flats c.args.table.now in
    let s = segment_of c.flat_at-segment.result in
    c.up.invariant.passed s (at-drop flats c.up.k s c.flat_at-segment.ensures.found)

pub add_part-requires-clause-over : goal.add_part-requires-clause-over
add_part-requires-clause-over g c =
    let flats = g.T.SegmentTable.flats c.args.table.now in
    let lawful = g.met.T.SegmentTable.lawful c.args.table.now in
    stand-over flats lawful c.args.set.now c.up.k (segment_of c.flat_at-segment.result) c.flat_at-segment.ensures.found c.up.answer c.up.invariant.exact

pub add_part-requires-clause-group : goal.add_part-requires-clause-group
add_part-requires-clause-group g c =
    let flats = g.T.SegmentTable.flats c.args.table.now in
    let lawful = g.met.T.SegmentTable.lawful c.args.table.now in
    group-at flats lawful c.args.set.now c.up.k (segment_of c.flat_at-segment.result) c.flat_at-segment.ensures.found

pub up-preserved : goal.up-preserved
up-preserved g c =
    let flats = g.T.SegmentTable.flats c.args.table.now in
    let lawful = g.met.T.SegmentTable.lawful c.args.table.now in
    let s = segment_of c.flat_at-segment.result in
    record {
      within = c.in_ok-left.ensures.within;
      counted = let k = c.flat_at-segment.ensures.tick in let b = c.up.invariant.counted in omega arith;
      passed = below-on flats lawful c.up.k s c.flat_at-segment.ensures.found (c.up.k + 1) _ (omega arith) c.in_ok-left.ensures.passed;
      exact = desc-more flats lawful c.args.set.now c.up.k s c.flat_at-segment.ensures.found c.up.answer c.up.invariant.exact (c.up.k + 1) c.add_part.new.answer (omega arith)
          c.in_ok-left.ensures.members;
    }

pub returns-clause-members : goal.returns-clause-members
returns-clause-members g c =
    let flats = g.T.SegmentTable.flats c.args.table.now in
    let lawful = g.met.T.SegmentTable.lawful c.args.table.now in
    λ x. let whole = desc-whole flats lawful c.args.set.now c.requires c.up.k c.up.answer (omega (arith, c.up-test.false, c.flat_count-k-end.ensures)) c.up.invariant.exact x in
    let same = c.in_ok-found.ensures.members x in (λ m. whole.0 (same.0 m), λ d. same.1 (whole.1 d))
