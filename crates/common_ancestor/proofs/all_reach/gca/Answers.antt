use Rattle.std.proofs.Common.{ℕ, ◌+◌, ◌∙◌, take, sym, subst, arith}
use Rattle.std.proofs.lemmas.List.{take_all}
use Rattle.segment_codec.specs.Table.{IsHeld}
use Rattle.span_set.specs.Members.{IsMember, IsCanonical}
use Rattle.span_set.proofs.MemberLemmas.{span-read, take-member-at}
use Rattle.ancestor_query.proofs.Parts.{span-held}
use Rattle.common_ancestor.proofs.Folds.{Done, done-start, done-held, done-next, done-gca, done-common}
use Rattle.common_ancestor.proofs.all_reach.gca.Goals as goal

pub spans-init : goal.spans-init
spans-init g c = record {
  counted = omega arith;
  done = (
    c.in-Some.first,
    c.in-Some.ensures.0,
    done-start (g.T.SegmentTable.flats c.args.table.now) (g.met.T.SegmentTable.lawful c.args.table.now) c.in-Some.first c.in_ok-last.last c.in_ok-last.ensures.members c.in_ok-last.ensures.canonical,
  );
}

pub meet_span-requires-clause-span : goal.meet_span-requires-clause-span
meet_span-requires-clause-span g c =
    span-read c.spans-span-items.result.now c.spans.span-index c.span-item.result (subst IsCanonical (sym c.spans-span-items.ensures.same) c.spans-span-items.ensures.canonical) c.spans-test.true c.span-item.is

pub meet_span-requires-clause-span_held : goal.meet_span-requires-clause-span_held
meet_span-requires-clause-span_held g c =
    let flats = g.T.SegmentTable.flats c.args.table.now in
    span-held flats c.spans-span-items.result.now c.spans.span-index c.span-item.result
    (subst (λ l. (x : ℕ) → IsMember l x → IsHeld flats x) (sym c.spans-span-items.ensures.same) c.requires) c.spans-test.true c.span-item.is

pub meet_span-requires-clause-held : goal.meet_span-requires-clause-held
meet_span-requires-clause-held g c =
    let i = c.spans.invariant.done in
    done-held (g.T.SegmentTable.flats c.args.table.now) (g.met.T.SegmentTable.lawful c.args.table.now) i.0 (take c.spans.span-index c.spans-span-items.result.now) c.spans.last i.2 (c.requires i.0 i.1)

pub spans-preserved : goal.spans-preserved
spans-preserved g c =
    let i = c.spans.invariant.done in
    let items = c.spans-span-items.result.now in
    record {
      counted = let before = c.spans.invariant.counted in let met = c.meet_span.ensures.counted in omega arith;
      done = (
        i.0,
        i.1,
        done-next (g.T.SegmentTable.flats c.args.table.now) (g.met.T.SegmentTable.lawful c.args.table.now) i.0 (take c.spans.span-index items) c.spans.last i.2
            c.span-item.result (take (c.spans.span-index + 1) items) c.in_ok-last-2.last
            (λ z. take-member-at items c.spans.span-index (c.spans.span-index + 1) c.span-item.result z c.spans-test.true (omega arith) c.span-item.is)
            c.in_ok-last-2.ensures.reached c.in_ok-last-2.ensures.last c.in_ok-last-2.ensures.canonical,
      );
    }

pub returns-clause-members : goal.returns-clause-members
returns-clause-members g c =
    let flats = g.T.SegmentTable.flats c.args.table.now in
    let lawful = g.met.T.SegmentTable.lawful c.args.table.now in
    let i = c.spans.invariant.done in
    let all = take_all c.spans.span-index c.spans-span-items.result.now c.spans-test.false ∙ c.spans-span-items.ensures.same in
    done-gca flats lawful i.0 c.args.set.now c.spans.last (subst (λ l. Done flats lawful i.0 l c.spans.last) all i.2) i.1

pub returns-clause-reached : goal.returns-clause-reached
returns-clause-reached g c =
    let flats = g.T.SegmentTable.flats c.args.table.now in
    let lawful = g.met.T.SegmentTable.lawful c.args.table.now in
    let i = c.spans.invariant.done in
    let all = take_all c.spans.span-index c.spans-span-items.result.now c.spans-test.false ∙ c.spans-span-items.ensures.same in
    done-common flats lawful i.0 c.args.set.now c.spans.last (subst (λ l. Done flats lawful i.0 l c.spans.last) all i.2) i.1
