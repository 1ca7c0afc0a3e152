use Rattle.std.proofs.Common.{◌++◌, flat_map, take, ap, subst, ◌∙◌}
use Rattle.segment_codec.specs.Record.{Segment}
use Rattle.remote_answers.specs.Marks.{AreMarks}
use Rattle.remote_answers.proofs.Marking.{mark-segment}
use Rattle.remote_answers.proofs.marks.parent_marks.Goals as goal

pub segments-preserved : goal.segments-preserved
segments-preserved c =
    let before = flat_map (λ (s : Segment). s.parents) (take c.segments.i c.args.segments.now) in
    mark-segment (λ (s : Segment). s.parents) c.args.count c.args.segments.now c.segments.i c.at-segment.result.now c.mark.new.marks.items c.at-segment.ensures
    (subst (λ l. AreMarks c.args.count (before ++ l) c.mark.new.marks.items) (c.numbers.ensures.numbers ∙ ap (λ (s : Segment). s.parents) c.segment.view_is)
    (c.mark.ensures.marks c.args.count before c.segments.invariant))
