use Rattle.std.proofs.Common.{arith, ◌∙◌, ◌+◌, ◌-◌, Some, sym, ap}
use Rattle.segment_codec.specs.Lent.{segment_of, parents_left}
use Rattle.ancestor_query.proofs.Best.{found-at}
use Rattle.ancestor_query.proofs.Firsts.{low-at_most, first-within, no-first, to-first, first-is}
use Rattle.ancestor_query.proofs.ancestry.first_ancestor.Goals as goal

pub overflow_sub-within : goal.overflow_sub-within
overflow_sub-within g c =
    let flats = g.T.SegmentTable.flats c.args.table.now in
    let lawful = g.met.T.SegmentTable.lawful c.args.table.now in
    let found = found-at flats c.jump.id c.flat.result c.unwrap-segment.result c.unwrap-segment.ensures c.flat.ensures.found in
    let le = low-at_most flats lawful c.jump.id (segment_of c.unwrap-segment.result) found in
    let n = c.number-number.ensures.number in let m = c.number.ensures.number in let l = c.low.ensures in
    omega arith

pub returns-then-left-within-clause-ancestor : goal.returns-then-left-within-clause-ancestor
returns-then-left-within-clause-ancestor g c =
    let flats = g.T.SegmentTable.flats c.args.table.now in
    let lawful = g.met.T.SegmentTable.lawful c.args.table.now in
    let found = found-at flats c.jump.id c.flat.result c.unwrap-segment.result c.unwrap-segment.ensures c.flat.ensures.found in
    let le = low-at_most flats lawful c.jump.id (segment_of c.unwrap-segment.result) found in
    let n = c.number-number.ensures.number in let m = c.number.ensures.number in let l = c.low.ensures in
    let within = c.if-left-within.true in
    ap (λ z. Some z) (c.from_number.ensures ∙ ap (λ z. z - c.jump.left) n)
    ∙ sym (first-within flats lawful c.jump.id (segment_of c.unwrap-segment.result) found c.jump.left (omega arith)) ∙ c.jump.invariant.same

pub returns-in_err-first-clause-ancestor : goal.returns-in_err-first-clause-ancestor
returns-in_err-first-clause-ancestor g c =
    let flats = g.T.SegmentTable.flats c.args.table.now in
    let lawful = g.met.T.SegmentTable.lawful c.args.table.now in
    let found = found-at flats c.jump.id c.flat.result c.unwrap-segment.result c.unwrap-segment.ensures c.flat.ensures.found in
    let n = c.number-number.ensures.number in let m = c.number.ensures.number in let l = c.low.ensures in
    let beyond = c.if-left-within.false in
    c.from_residual.ensures
    ∙ sym (no-first flats lawful c.jump.id (segment_of c.unwrap-segment.result) found c.jump.left (omega arith) (sym c.parents.ensures ∙ c.in_err-first.ensures.steps.0)) ∙ c.jump.invariant.same

pub jump-smaller : goal.jump-smaller
jump-smaller g c =
    let flats = g.T.SegmentTable.flats c.args.table.now in
    let lawful = g.met.T.SegmentTable.lawful c.args.table.now in
    let found = found-at flats c.jump.id c.flat.result c.unwrap-segment.result c.unwrap-segment.ensures c.flat.ensures.found in
    let le = low-at_most flats lawful c.jump.id (segment_of c.unwrap-segment.result) found in
    let first = (first-is flats lawful c.jump.id (segment_of c.unwrap-segment.result) found c.in_ok-first.first (parents_left c.next.new.self) (sym c.parents.ensures ∙ c.in_ok-first.ensures.steps)).0 in
    omega arith

pub jump-preserved : goal.jump-preserved
jump-preserved g c =
    let flats = g.T.SegmentTable.flats c.args.table.now in
    let lawful = g.met.T.SegmentTable.lawful c.args.table.now in
    let found = found-at flats c.jump.id c.flat.result c.unwrap-segment.result c.unwrap-segment.ensures c.flat.ensures.found in
    let le = low-at_most flats lawful c.jump.id (segment_of c.unwrap-segment.result) found in
    let n = c.number-number.ensures.number in let m = c.number.ensures.number in let l = c.low.ensures in
    let beyond = c.if-left-within.false in
    let parents = sym c.parents.ensures ∙ c.in_ok-first.ensures.steps in
    record {
      inside = (first-is flats lawful c.jump.id (segment_of c.unwrap-segment.result) found c.in_ok-first.first (parents_left c.next.new.self) parents).1;
      counted = let k = c.flat.ensures.tick in let b = c.jump.invariant.counted in omega arith;
      same = to-first flats lawful c.jump.id (segment_of c.unwrap-segment.result) found c.jump.left (c.jump.left - (c.number-number.result - c.number.result + 1)) c.in_ok-first.first (parents_left c.next.new.self) (omega arith) parents ∙ c.jump.invariant.same;
    }
