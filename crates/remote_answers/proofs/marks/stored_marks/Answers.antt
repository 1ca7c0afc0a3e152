use Rattle.std.proofs.Common.{◌++◌, ◌∷◌, [], flat_map, take, ap, subst, ◌∙◌, append_assoc}
use Rattle.segment_codec.specs.Record.{Segment}
use Rattle.remote_rules.specs.CloneData.{merge_parents}
use Rattle.remote_answers.specs.Marks.{AreMarks, stored_by}
use Rattle.remote_answers.proofs.Marking.{mark-segment}
use Rattle.remote_answers.proofs.marks.stored_marks.Goals as goal

pub segments-preserved : goal.segments-preserved
segments-preserved c =
    let before = flat_map stored_by (take c.segments.i c.args.segments.now) in
    let marks = c.mark-in-segments.new.marks.items in
    let high = ap (λ (s : Segment). s.high) c.segment.view_is in
    let parents = c.merge_parents.ensures ∙ ap merge_parents (c.numbers.ensures.numbers ∙ ap (λ (s : Segment). s.parents) c.segment.view_is) in
    let first = c.mark.ensures.marks c.args.count before c.segments.invariant in
    let all = c.mark-in-segments.ensures.marks c.args.count (before ++ c.segment.inside.high ∷ []) first in
    mark-segment stored_by c.args.count c.args.segments.now c.segments.i c.at-segment.result.now marks c.at-segment.ensures
    (subst (λ l. AreMarks c.args.count (before ++ c.at-segment.result.now.high ∷ l) marks) parents
    (subst (λ h. AreMarks c.args.count (before ++ h ∷ c.merge_parents.result.now) marks) high
    (subst (λ l. AreMarks c.args.count l marks) (append_assoc before (c.segment.inside.high ∷ []) c.merge_parents.result.now) all)))
