use Rattle.std.proofs.Common.{◌≡◌, ◌<◌, ◌++◌, ◌∷◌, [], Some, inl, inr, length, take, ap, ◌∙◌, arith, subst, sym}
use Rattle.std.specs.Prelude.{slice_get}
use Rattle.std.specs.List.{AllByRecursion}
use Rattle.segment_codec.specs.Record.{Segment, HasLevelsParents}
use Rattle.segment_codec.specs.Lent.{segment_of}
use Rattle.remote_rules.specs.CloneData.{CloneData}
use Rattle.remote_answers.proofs.Marking.{take-one}
use Rattle.remote_answers.proofs.Cloned.{cut-masters, all-more, place-in}
use Rattle.remote_answers.proofs.cloning.put_segments.Goals as goal

pub returns-then-number-count-clause-segments : goal.returns-then-number-count-clause-segments
returns-then-number-count-clause-segments g c = λ masters others end e f b.
    let s = segment_of c.flat_at-segment.result in
    let n = c.number.ensures.number in let l = c.low.ensures in let over = c.if-number-count.true in
    c.segments.invariant.segments ∙ ap (take c.segments.k) e
    ∙ cut-masters 0 c.args.count end masters others c.segments.k f b c.requires.count
    (subst (λ l. AllByRecursion (λ (t : Segment). t.low < c.args.count) (take c.segments.k l)) e c.segments.invariant.below)
    (inr (s, subst (λ l. slice_get l c.segments.k ≡ Some s) e c.flat_at-segment.ensures.found, omega (arith, n, l, over)))

pub put_segment-requires-clause-flat : goal.put_segment-requires-clause-flat
put_segment-requires-clause-flat g c =
    let flats = g.T.SegmentTable.flats c.args.table.now in
    let s = segment_of c.flat_at-segment.result in
    ((g.met.T.SegmentTable.lawful c.args.table.now).each s (place-in flats c.segments.k s c.flat_at-segment.ensures.found)).flat

pub put_segment-requires-clause-few : goal.put_segment-requires-clause-few
put_segment-requires-clause-few g c =
    let flats = g.T.SegmentTable.flats c.args.table.now in
    let s = segment_of c.flat_at-segment.result in
    let flat = (g.met.T.SegmentTable.lawful c.args.table.now).each s (place-in flats c.segments.k s c.flat_at-segment.ensures.found) in
    subst (λ n. HasLevelsParents n s.parents) flat.flat flat.segment.level_parents

pub segments-preserved : goal.segments-preserved
segments-preserved g c =
    let flats = g.T.SegmentTable.flats c.args.table.now in
    let s = segment_of c.flat_at-segment.result in
    let n = c.number.ensures.number in let l = c.low.ensures in let under = c.if-number-count.false in
    record {
      segments = ap (λ (d : CloneData). d.segments) c.in_ok-put_segment.ensures ∙ ap (λ l. l ++ s ∷ []) c.segments.invariant.segments ∙ sym (take-one flats c.segments.k s c.flat_at-segment.ensures.found);
      below = all-more (λ (t : Segment). t.low < c.args.count) flats c.segments.k s c.segments.invariant.below c.flat_at-segment.ensures.found (omega (arith, n, l, under));
      names = ap (λ (d : CloneData). d.names) c.in_ok-put_segment.ensures ∙ c.segments.invariant.names;
      heads = ap (λ (d : CloneData). d.heads) c.in_ok-put_segment.ensures ∙ c.segments.invariant.heads;
    }

pub returns-clause-segments : goal.returns-clause-segments
returns-clause-segments g c = λ masters others end e f b.
    let n = c.flat_count-k-end.ensures in let t = c.segments-test.false in let size = ap (length {A = Segment}) e in
    c.segments.invariant.segments ∙ ap (take c.segments.k) e
    ∙ cut-masters 0 c.args.count end masters others c.segments.k f b c.requires.count
    (subst (λ l. AllByRecursion (λ (t : Segment). t.low < c.args.count) (take c.segments.k l)) e c.segments.invariant.below)
    (inl (omega (arith, n, t, size)))
