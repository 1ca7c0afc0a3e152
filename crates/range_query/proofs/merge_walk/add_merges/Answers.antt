use Rattle.std.proofs.Common.{◌≡◌, ◌≤◌, ◌+◌, ◌-◌, length, sym, subst, arith}
use Rattle.segment_codec.specs.Number.{number_bytes}
use Rattle.segment_codec.specs.Lent.{segment_of}
use Rattle.range_query.proofs.MergeLemmas.{place-held, merges-none, merges-more, merges-stop, merges-whole}
use Rattle.range_query.proofs.ByteCounts.{number-longer}
use Rattle.range_query.proofs.merge_walk.add_merges.Goals as goal

pub overflow_add-end : goal.overflow_add-end
overflow_add-end g c =
    let flats = g.T.SegmentTable.flats c.args.table.now in
    let lt = place-held flats c.args.span.now.high c.count_below-end.result c.count_below-end.ensures.place c.requires in
    omega (arith, c.count_below-end.ensures.fits)

pub down-init : goal.down-init
down-init g c =
    let flats = g.T.SegmentTable.flats c.args.table.now in
    let lawful = g.met.T.SegmentTable.lawful c.args.table.now in
    record {
      canonical = λ h. h;
      counted = c.count_below-end.ensures.counted;
      exact = merges-none flats lawful c.args.span.now c.args.answer.now c.count_below-end.result (c.count_below-end.result + 1) c.count_below-end.ensures.place
          (place-held flats c.args.span.now.high c.count_below-end.result c.count_below-end.ensures.place c.requires) (omega arith);
    }

pub flat_at-segment-requires : goal.flat_at-segment-requires
flat_at-segment-requires g c =
    let flats = g.T.SegmentTable.flats c.args.table.now in
    let lt = place-held flats c.args.span.now.high c.count_below-end.result c.count_below-end.ensures.place c.requires in
    let test = c.down-test.true in let top = c.down.auto.k in omega arith

pub returns-then-number-clause-members : goal.returns-then-number-clause-members
returns-then-number-clause-members g c =
    let flats = g.T.SegmentTable.flats c.args.table.now in
    let lawful = g.met.T.SegmentTable.lawful c.args.table.now in
    let test = c.down-test.true in
    merges-stop flats lawful c.args.span.now c.args.answer.now (c.down.k - 1) c.down.k (segment_of c.flat_at-segment.result) (omega arith) c.flat_at-segment.ensures.found c.down.answer c.down.invariant.exact (omega arith)

pub down-preserved : goal.down-preserved
down-preserved g c =
    let flats = g.T.SegmentTable.flats c.args.table.now in
    let lawful = g.met.T.SegmentTable.lawful c.args.table.now in
    let test = c.down-test.true in
    record {
      canonical = λ h. c.in_ok-add_lowest.ensures.canonical (c.down.invariant.canonical h);
      counted = let k = c.flat_at-segment.ensures.tick in let b = c.down.invariant.counted in omega arith;
      exact = merges-more flats lawful c.args.span.now c.args.answer.now (c.down.k - 1) c.down.k (segment_of c.flat_at-segment.result) (omega arith) c.flat_at-segment.ensures.found c.down.answer c.down.invariant.exact
          c.add_lowest.new.answer c.in_ok-add_lowest.ensures.members;
    }

pub returns-clause-members : goal.returns-clause-members
returns-clause-members g c =
    let flats = g.T.SegmentTable.flats c.args.table.now in
    let lawful = g.met.T.SegmentTable.lawful c.args.table.now in
    let test = c.down-test.false in
    merges-whole flats lawful c.args.span.now c.args.answer.now c.down.k c.down.answer (omega arith) c.down.invariant.exact

pub add_lowest-requires : goal.add_lowest-requires
add_lowest-requires g c = λ n le.
    let longer = number-longer n c.args.span.now.high le in
    let number = c.number.ensures.number in
    subst (λ k. length (number_bytes n) ≤ k) (sym (subst (λ m. c.number_len-longest.result ≡ length (number_bytes m)) number c.number_len-longest.ensures)) longer
