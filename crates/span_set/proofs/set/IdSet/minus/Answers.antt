use Rattle.std.proofs.Common.{arith, ◌+◌, ◌<◌, ◌≤◌, ◌≡◌, inr, ⊎_elim, sym, subst, ap, length, get_or, zero-le, le_refl, ℕ}
use Rattle.id_groups.specs.declared.span.IdSpan.{IdSpan}
use Rattle.span_set.specs.Members.{IsCanonical, IsMember}
use Rattle.span_set.proofs.MemberLemmas.{span-read, lt_or_le}
use Rattle.span_set.proofs.Overlaps.{piece-group, member-bound, minus-left, minus-right, under-gap, under-low, high-under}
use Rattle.span_set.proofs.set.IdSet.minus.Goals as goal

pub walk-init : goal.walk-init
walk-init c =
    let cf = subst IsCanonical (sym c.spans-from.ensures.same) c.spans-from.ensures.canonical in
    let cc = subst IsCanonical (sym c.spans-cut.ensures.same) c.spans-cut.ensures.canonical in
    record {
      left = zero-le;
      right = zero-le;
      bound = le_refl _;
      canonical = subst IsCanonical (sym c.empty-kept.ensures) tt;
      members = λ x. (λ g. inr (g.0, g.1, member-bound _ x cf g.0), λ h. ⊎_elim (λ m. absurd (subst (λ l. IsMember l x) c.empty-kept.ensures m)) (λ r. (r.0, r.1)) h);
      under = λ x m. member-bound _ x cc m;
    }

pub insert_between-requires-clause-group : goal.insert_between-requires-clause-group
insert_between-requires-clause-group c = λ small.
    let span = span-read c.spans-from.result.now c.walk.i c.index-from-i.result (subst IsCanonical (sym c.spans-from.ensures.same) c.spans-from.ensures.canonical) c.walk-test.true c.index-from-i.is in
    piece-group c.index-from-i.result c.max-low.result c.min-high.result span
    (omega (arith, c.max-low.ensures, c.number.ensures.number))
    (omega (arith, c.min-high.ensures, c.number-in-walk.ensures.number)) small

pub walk-preserved-then-gap-number : goal.walk-preserved-then-gap-number
walk-preserved-then-gap-number c =
    let xs = c.spans-from.result.now in let ys = c.spans-cut.result.now in
    let d = c.index-from-i.result in
    let cc = subst IsCanonical (sym c.spans-cut.ensures.same) c.spans-cut.ensures.canonical in
    let low = ap (λ (s : IdSpan). s.low) c.index-from-i.is in let high = ap (λ (s : IdSpan). s.high) c.index-from-i.is in
    record {
      left = omega (arith, c.walk-test.true);
      right = c.walk.invariant.right;
      bound = c.walk.invariant.bound;
      canonical = c.in_ok-insert_between.ensures.canonical c.walk.invariant.canonical;
      under = c.walk.invariant.under;
      members = λ x. minus-left xs ys c.walk.i c.walk.j (c.walk.i + 1) d d c.end_of-gap.result c.walk.end c.max-low.result c.min-high.result x c.walk-test.true
          (omega (arith, c.max-low.ensures, c.number.ensures.number, low))
          (omega (arith, c.min-high.ensures, c.number-in-walk.ensures.number, high))
          (c.walk.invariant.members x) (c.in_ok-insert_between.ensures.members x) (omega arith)
          (under-gap ys c.walk.j c.end_of-gap.result d cc (c.end_of-gap.ensures.inside d))
          (omega (arith, c.if-gap-number.true, c.number-in-walk-2.ensures.number, low));
    }

-- the gap is above an id, so there is a next span
inside : (n j gap low : ℕ) → (n ≤ j → gap ≡ 0) → low < gap → j < n
inside n j gap low behind lt = ⊎_elim (λ jn. jn) (λ out. let z = behind out in absurd (omega arith)) (lt_or_le j n)

pub walk-preserved : goal.walk-preserved
walk-preserved c =
    let xs = c.spans-from.result.now in let ys = c.spans-cut.result.now in
    let d = c.index-from-i.result in let e = c.index-cut-j.result in
    let cf = subst IsCanonical (sym c.spans-from.ensures.same) c.spans-from.ensures.canonical in
    let cc = subst IsCanonical (sym c.spans-cut.ensures.same) c.spans-cut.ensures.canonical in
    let low = ap (λ (s : IdSpan). s.low) c.index-from-i.is in let high = ap (λ (s : IdSpan). s.high) c.index-from-i.is in
    let jy : c.walk.j < length ys = inside (length ys) c.walk.j c.end_of-gap.result c.number-in-walk-2.result c.end_of-gap.ensures.behind c.if-gap-number.false in
    let new : c.number-end.result ≡ (get_or ys c.walk.j e).low = omega (arith, c.number-end.ensures.number, ap (λ (s : IdSpan). s.low) c.index-cut-j.is) in
    record {
      left = c.walk.invariant.left;
      right = omega (arith, jy);
      bound = omega (arith, c.number-end.ensures.small);
      canonical = c.in_ok-insert_between.ensures.canonical c.walk.invariant.canonical;
      under = under-low ys c.walk.j (c.walk.j + 1) c.number-end.result e cc jy (omega arith) new;
      members = λ x. minus-right xs ys c.walk.i c.walk.j (c.walk.j + 1) d e c.end_of-gap.result c.walk.end c.max-low.result c.min-high.result x c.walk-test.true
          (omega (arith, c.max-low.ensures, c.number.ensures.number, low))
          (omega (arith, c.min-high.ensures, c.number-in-walk.ensures.number, high))
          (c.walk.invariant.members x) (c.in_ok-insert_between.ensures.members x) (omega arith) jy cf cc
          (high-under ys c.walk.j c.walk.end e cc jy c.walk.invariant.under) (c.end_of-gap.ensures.inside e jy)
          (omega (arith, c.if-gap-number.false, c.number-in-walk-2.ensures.number, low)) c.number-end.result new;
    }
