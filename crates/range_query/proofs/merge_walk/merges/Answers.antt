use Rattle.std.proofs.Common.{arith, ◌+◌, sym, subst, le_refl}
use Rattle.id_groups.specs.declared.span.IdSpan.{IdSpan}
use Rattle.id_groups.specs.Span.{IsInSpan}
use Rattle.span_set.specs.Members.{IsMember, IsCanonical}
use Rattle.span_set.proofs.MemberLemmas.{member-at, span-read}
use Rattle.range_query.proofs.MergeLemmas.{span-merges}
use Rattle.range_query.proofs.merge_walk.merges.Goals as goal

pub add_merges-requires : goal.add_merges-requires
add_merges-requires g c =
    let xs = c.spans-span-items.result.now in
    let r = c.span-item.result in
    let canonical = subst IsCanonical (sym c.spans-span-items.ensures.same) c.spans-span-items.ensures.canonical in
    let order = (span-read xs c.spans.span-index r canonical c.spans-test.true c.span-item.is).order in
    c.requires r.high (subst (λ l. IsMember l r.high) c.spans-span-items.ensures.same
    (member-at xs c.spans.span-index r r.high c.spans-test.true (subst (λ (s : IdSpan). IsInSpan r.high s) c.span-item.is (order, le_refl r.high))))

pub spans-preserved : goal.spans-preserved
spans-preserved g c =
    record {
      canonical = c.in_ok-add_merges.ensures.canonical c.spans.invariant.canonical;
      counted = let k = c.add_merges.ensures.counted in let b = c.spans.invariant.counted in omega arith;
      exact = λ x. span-merges c.spans-span-items.result.now c.spans.span-index (c.spans.span-index + 1) c.span-item.result x c.spans-test.true (omega arith) c.span-item.is
          (c.spans.invariant.exact x) (c.in_ok-add_merges.ensures.members x);
    }
