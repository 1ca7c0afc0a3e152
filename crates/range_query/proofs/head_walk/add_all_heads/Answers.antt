use Rattle.std.proofs.Common.{arith, ℕ, ◌^◌, ◌+◌, ◌<◌, sym, subst}
use Rattle.span_set.specs.Members.{IsMember, IsCanonical}
use Rattle.span_set.proofs.MemberLemmas.{span-read}
use Rattle.ancestor_query.proofs.Graphs.{held-bound}
use Rattle.range_query.proofs.EndLemmas.{span-inside, heads-begin, heads-gap, heads-whole, parted-gap, parted-next}
use Rattle.range_query.proofs.head_walk.add_all_heads.Goals as goal

pub spans-init : goal.spans-init
spans-init g c =
    let flats = g.T.SegmentTable.flats c.args.table.now in
    let lawful = g.met.T.SegmentTable.lawful c.args.table.now in
    let under : (x : ℕ) → IsMember c.args.set.now x → x < 2 ^ 57 = λ x m. held-bound flats lawful x (c.requires.held x m) in
    record {
      canonical = λ h. h;
      counted = omega arith;
      heads = (
        2 ^ 57,
        record { over = λ x m. absurd m; under = λ x m. under x (subst (λ l. IsMember l x) c.spans-span-items.ensures.same m) },
        heads-begin flats lawful c.args.set.now (2 ^ 57) c.args.answer.now c.args.waiting.now c.requires.answer c.requires.waiting under,
      );
    }

pub add_heads-requires-clause-span : goal.add_heads-requires-clause-span
add_heads-requires-clause-span g c =
    let canonical = subst IsCanonical (sym c.spans-span-items.ensures.same) c.spans-span-items.ensures.canonical in
    span-read c.spans-span-items.result.now c.spans.span-index c.span-item.result canonical c.spans-test.true c.span-item.is

pub add_heads-requires-clause-inside : goal.add_heads-requires-clause-inside
add_heads-requires-clause-inside g c = λ x h.
    span-inside c.spans-span-items.result.now c.args.set.now c.spans.span-index c.span-item.result c.spans-span-items.ensures.same c.spans-test.true c.span-item.is x h

pub add_heads-requires-clause-held : goal.add_heads-requires-clause-held
add_heads-requires-clause-held g c = λ x h.
    c.requires.held x (span-inside c.spans-span-items.result.now c.args.set.now c.spans.span-index c.span-item.result c.spans-span-items.ensures.same c.spans-test.true c.span-item.is x h)

pub add_heads-requires-clause-above : goal.add_heads-requires-clause-above
add_heads-requires-clause-above g c =
    let flats = g.T.SegmentTable.flats c.args.table.now in
    let lawful = g.met.T.SegmentTable.lawful c.args.table.now in
    let xs = c.spans-span-items.result.now in
    let r = c.span-item.result in
    let canonical = subst IsCanonical (sym c.spans-span-items.ensures.same) c.spans-span-items.ensures.canonical in
    let order = (span-read xs c.spans.span-index r canonical c.spans-test.true c.span-item.is).order in
    let end = c.spans.invariant.heads.0 in
    let parted = c.spans.invariant.heads.1 in
    heads-gap flats lawful c.args.set.now (r.high + 1) end c.spans.answer c.spans.waiting (parted-next xs c.spans.span-index r canonical c.spans-test.true c.span-item.is (c.spans.span-index + 1) end (omega arith) order parted).0
    (λ x m a. parted-gap xs c.spans.span-index r canonical c.spans-test.true c.span-item.is end parted x (subst (λ l. IsMember l x) (sym c.spans-span-items.ensures.same) m) a)
    c.spans.invariant.heads.2

pub spans-preserved : goal.spans-preserved
spans-preserved g c =
    let xs = c.spans-span-items.result.now in
    let r = c.span-item.result in
    let canonical = subst IsCanonical (sym c.spans-span-items.ensures.same) c.spans-span-items.ensures.canonical in
    let order = (span-read xs c.spans.span-index r canonical c.spans-test.true c.span-item.is).order in
    record {
      canonical = λ h. c.in_ok-add_heads.ensures.canonical (c.spans.invariant.canonical h);
      counted = let k = c.add_heads.ensures.counted in let b = c.spans.invariant.counted in omega arith;
      heads = (
        r.low,
        (parted-next xs c.spans.span-index r canonical c.spans-test.true c.span-item.is (c.spans.span-index + 1) c.spans.invariant.heads.0 (omega arith) order c.spans.invariant.heads.1).1,
        c.in_ok-add_heads.ensures.heads,
      );
    }

pub returns-clause-members : goal.returns-clause-members
returns-clause-members g c =
    let flats = g.T.SegmentTable.flats c.args.table.now in
    let lawful = g.met.T.SegmentTable.lawful c.args.table.now in
    let test = c.spans-test.false in
    heads-whole flats lawful c.args.set.now c.spans-span-items.result.now c.spans.span-index c.spans.invariant.heads.0 c.spans.answer c.spans.waiting c.spans-span-items.ensures.same (omega arith)
    c.spans.invariant.heads.1 c.spans.invariant.heads.2
