use Rattle.std.proofs.Common.{◌++◌, true, length, get_or, subst, ◌∙◌}
use Rattle.std.proofs.lemmas.List.{length-set, take_all}
use Rattle.remote_answers.specs.Marks.{AreMarks}
use Rattle.remote_answers.proofs.Marking.{mark-more}
use Rattle.remote_answers.proofs.marks.mark.Goals as goal

pub ids-preserved : goal.ids-preserved
ids-preserved c = record {
  size = length-set c.ids.marks.items (get_or c.args.ids.now c.ids.id-index 0) true ∙ c.ids.invariant.size;
  marked = λ count before m. mark-more count before c.args.ids.now c.ids.marks.items c.ids.id-index (length c.args.marks.now.items) (c.ids.invariant.marked count before m) c.ids-test.true c.requires c.ids.invariant.size;
}

pub returns-clause-marks : goal.returns-clause-marks
returns-clause-marks c = λ count before m.
    subst (λ l. AreMarks count (before ++ l) c.ids.marks.items) (take_all c.ids.id-index c.args.ids.now c.ids-test.false) (c.ids.invariant.marked count before m)
