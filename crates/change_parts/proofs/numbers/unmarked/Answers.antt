use Rattle.std.proofs.Common.{◌∙◌, ◌∷◌, [], ◌++◌, not, false, cond, sym, ap, get_or}
use Rattle.change_parts.proofs.Marking.{filter-next}
use Rattle.change_parts.proofs.numbers.unmarked.Goals as goal

pub rest-preserved : goal.rest-preserved
rest-preserved c = c.in_ok-keep_unmarked.ensures ∙ ap (λ l. l ++ cond (not (get_or c.args.marks.now c.rest.k false)) (c.rest.k ∷ []) []) c.rest.invariant ∙ sym (filter-next (λ j. not (get_or c.args.marks.now j false)) c.rest.k)
