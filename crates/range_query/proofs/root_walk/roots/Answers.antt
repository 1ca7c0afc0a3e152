use Rattle.std.proofs.Common.{arith, ◌+◌, sym, subst}
use Rattle.span_set.specs.Members.{IsCanonical}
use Rattle.span_set.proofs.MemberLemmas.{span-read}
use Rattle.range_query.proofs.MergeLemmas.{span-merges}
use Rattle.range_query.proofs.EndLemmas.{span-inside}
use Rattle.range_query.proofs.root_walk.roots.Goals as goal

pub add_roots-requires-clause-span : goal.add_roots-requires-clause-span
add_roots-requires-clause-span g c =
    let canonical = subst IsCanonical (sym c.spans-span-items.ensures.same) c.spans-span-items.ensures.canonical in
    span-read c.spans-span-items.result.now c.spans.span-index c.span-item.result canonical c.spans-test.true c.span-item.is

pub add_roots-requires-clause-inside : goal.add_roots-requires-clause-inside
add_roots-requires-clause-inside g c = λ x h.
    span-inside c.spans-span-items.result.now c.args.set.now c.spans.span-index c.span-item.result c.spans-span-items.ensures.same c.spans-test.true c.span-item.is x h

pub add_roots-requires-clause-held : goal.add_roots-requires-clause-held
add_roots-requires-clause-held g c = λ x h.
    c.requires x (span-inside c.spans-span-items.result.now c.args.set.now c.spans.span-index c.span-item.result c.spans-span-items.ensures.same c.spans-test.true c.span-item.is x h)

pub spans-preserved : goal.spans-preserved
spans-preserved g c = record {
  canonical = c.in_ok-add_roots.ensures.canonical c.spans.invariant.canonical;
  counted = let k = c.add_roots.ensures.counted in let b = c.spans.invariant.counted in omega arith;
  exact = λ x. span-merges c.spans-span-items.result.now c.spans.span-index (c.spans.span-index + 1) c.span-item.result x c.spans-test.true (omega arith) c.span-item.is
      (c.spans.invariant.exact x) (c.in_ok-add_roots.ensures.members x);
}
