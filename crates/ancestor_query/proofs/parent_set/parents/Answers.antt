use Rattle.std.proofs.Common.{arith, ℕ, ◌+◌, sym, subst}
use Rattle.span_set.specs.Members.{IsMember, IsCanonical}
use Rattle.span_set.proofs.MemberLemmas.{span-read}
use Rattle.ancestor_query.proofs.Parts.{parents-next, span-held}
use Rattle.segment_codec.specs.Table.{IsHeld}
use Rattle.ancestor_query.proofs.parent_set.parents.Goals as goal

pub add_span-requires-clause-span : goal.add_span-requires-clause-span
add_span-requires-clause-span g c =
    span-read c.spans-span-items.result.now c.spans.span-index c.span-item.result (subst IsCanonical (sym c.spans-span-items.ensures.same) c.spans-span-items.ensures.canonical) c.spans-test.true c.span-item.is

pub add_span-requires-clause-held : goal.add_span-requires-clause-held
add_span-requires-clause-held g c =
    let flats = g.T.SegmentTable.flats c.args.table.now in
    span-held flats c.spans-span-items.result.now c.spans.span-index c.span-item.result
    (subst (λ l. (x : ℕ) → IsMember l x → IsHeld flats x) (sym c.spans-span-items.ensures.same) c.requires) c.spans-test.true c.span-item.is

pub spans-preserved : goal.spans-preserved
spans-preserved g c = record {
  counted = let k = c.add_span.ensures.counted in let b = c.spans.invariant.counted in omega arith;
  parents = λ x. parents-next (g.T.SegmentTable.flats c.args.table.now) c.spans-span-items.result.now c.spans.span-index (c.spans.span-index + 1) c.span-item.result x c.spans-test.true (omega arith) c.span-item.is
      (c.spans.invariant.parents x) (c.in_ok-add_span.ensures.parents x);
  settled = c.in_ok-add_span.ensures.settled;
}
