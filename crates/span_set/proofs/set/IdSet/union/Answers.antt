use Rattle.std.proofs.Common.{arith, ◌+◌, ◌<◌, sym, subst, length}
use Rattle.span_set.specs.Members.{IsCanonical}
use Rattle.span_set.proofs.MemberLemmas.{take-member-at, span-read, merge-left, merge-right}
use Rattle.span_set.proofs.set.IdSet.union.Goals as goal

pub insert_span-requires : goal.insert_span-requires
insert_span-requires c =
    span-read c.spans-left.result.now c.merge.i c.index-left-i.result (subst IsCanonical (sym c.spans-left.ensures.same) c.spans-left.ensures.canonical) (c.is_left_next.ensures.left c.if-is_left_next.true) c.index-left-i.is

pub insert_span-requires-else-is_left_next : goal.insert_span-requires-else-is_left_next
insert_span-requires-else-is_left_next c =
    span-read c.spans-right.result.now c.merge.j c.index-right-j.result (subst IsCanonical (sym c.spans-right.ensures.same) c.spans-right.ensures.canonical) (c.is_left_next.ensures.right c.if-is_left_next.false) c.index-right-j.is

pub merge-preserved-then-is_left_next : goal.merge-preserved-then-is_left_next
merge-preserved-then-is_left_next c =
    let lt : c.merge.i < length c.spans-left.result.now = c.is_left_next.ensures.left c.if-is_left_next.true in
    record {
      left = omega arith;
      right = c.merge.invariant.right;
      canonical = c.in_ok-insert_span.ensures.canonical;
      members = λ x. merge-left (c.merge.invariant.members x) (c.in_ok-insert_span.ensures.members x) (take-member-at c.spans-left.result.now c.merge.i (c.merge.i + 1) c.index-left-i.result x lt (omega arith) c.index-left-i.is);
    }

pub merge-preserved : goal.merge-preserved
merge-preserved c =
    let lt : c.merge.j < length c.spans-right.result.now = c.is_left_next.ensures.right c.if-is_left_next.false in
    record {
      left = c.merge.invariant.left;
      right = omega arith;
      canonical = c.in_ok-insert_span-2.ensures.canonical;
      members = λ x. merge-right (c.merge.invariant.members x) (c.in_ok-insert_span-2.ensures.members x) (take-member-at c.spans-right.result.now c.merge.j (c.merge.j + 1) c.index-right-j.result x lt (omega arith) c.index-right-j.is);
    }
