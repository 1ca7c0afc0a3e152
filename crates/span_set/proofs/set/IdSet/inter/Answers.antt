use Rattle.std.proofs.Common.{arith, ◌+◌, sym, subst, ap}
use Rattle.id_groups.specs.declared.span.IdSpan.{IdSpan}
use Rattle.span_set.specs.Members.{IsCanonical}
use Rattle.span_set.proofs.MemberLemmas.{span-read}
use Rattle.span_set.proofs.Overlaps.{piece-group, walk-left, walk-right}
use Rattle.span_set.proofs.set.IdSet.inter.Goals as goal

pub insert_between-requires-clause-group : goal.insert_between-requires-clause-group
insert_between-requires-clause-group c = λ small.
    let span = span-read c.spans-left.result.now c.walk.i c.index-left-i.result (subst IsCanonical (sym c.spans-left.ensures.same) c.spans-left.ensures.canonical) c.walk-test.true c.index-left-i.is in
    piece-group c.index-left-i.result c.max-low.result (c.min-high.result + 1) span
    (omega (arith, c.max-low.ensures, c.number.ensures.number))
    (omega (arith, c.min-high.ensures, c.number-in-walk-2.ensures.number)) small

pub walk-preserved-then-number : goal.walk-preserved-then-number
walk-preserved-then-number c =
    let xs = c.spans-left.result.now in let ys = c.spans-right.result.now in
    let la = ap (λ (s : IdSpan). s.low) c.index-left-i.is in let lb = ap (λ (s : IdSpan). s.low) c.index-right-j.is in
    let ha = ap (λ (s : IdSpan). s.high) c.index-left-i.is in let hb = ap (λ (s : IdSpan). s.high) c.index-right-j.is in
    record {
      left = omega (arith, c.walk-test.true);
      right = c.walk.invariant.right;
      canonical = c.in_ok-insert_between.ensures.canonical c.walk.invariant.canonical;
      members = λ x. walk-left xs ys c.walk.i c.walk.j (c.walk.i + 1) c.index-left-i.result c.index-right-j.result c.max-low.result (c.min-high.result + 1) x
          (subst IsCanonical (sym c.spans-right.ensures.same) c.spans-right.ensures.canonical) c.walk-test.true c.if-j-right.true (omega arith)
          (omega (arith, c.if-number.true, c.number-in-walk-4.ensures.number, c.number-in-walk-5.ensures.number, la, lb))
          (omega (arith, c.max-low.ensures, c.number.ensures.number, c.number-in-walk.ensures.number, la, lb))
          (omega (arith, c.min-high.ensures, c.number-in-walk-2.ensures.number, c.number-in-walk-3.ensures.number, ha, hb))
          (c.walk.invariant.members x) (c.in_ok-insert_between.ensures.members x);
    }

pub walk-preserved : goal.walk-preserved
walk-preserved c =
    let xs = c.spans-left.result.now in let ys = c.spans-right.result.now in
    let la = ap (λ (s : IdSpan). s.low) c.index-left-i.is in let lb = ap (λ (s : IdSpan). s.low) c.index-right-j.is in
    let ha = ap (λ (s : IdSpan). s.high) c.index-left-i.is in let hb = ap (λ (s : IdSpan). s.high) c.index-right-j.is in
    record {
      left = c.walk.invariant.left;
      right = omega (arith, c.if-j-right.true);
      canonical = c.in_ok-insert_between.ensures.canonical c.walk.invariant.canonical;
      members = λ x. walk-right xs ys c.walk.i c.walk.j (c.walk.j + 1) c.index-left-i.result c.index-right-j.result c.max-low.result (c.min-high.result + 1) x
          (subst IsCanonical (sym c.spans-left.ensures.same) c.spans-left.ensures.canonical) c.walk-test.true c.if-j-right.true (omega arith)
          (omega (arith, c.if-number.false, c.number-in-walk-4.ensures.number, c.number-in-walk-5.ensures.number, la, lb))
          (omega (arith, c.max-low.ensures, c.number.ensures.number, c.number-in-walk.ensures.number, la, lb))
          (omega (arith, c.min-high.ensures, c.number-in-walk-2.ensures.number, c.number-in-walk-3.ensures.number, ha, hb))
          (c.walk.invariant.members x) (c.in_ok-insert_between.ensures.members x);
    }
