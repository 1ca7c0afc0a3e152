use Rattle.std.proofs.Common.{◌∙◌, inl, inr, ⊎_elim, ap}
use Rattle.id_groups.specs.Name.{same_name}
use Rattle.change_rules.specs.Rebase.{first_lost}
use Rattle.change_parts.specs.Plans.{first_fault, conflict_fault}
use Rattle.rebase_pending.specs.Rebases.{lost_fault}
use Rattle.change_parts.proofs.Refusals.{err-match}
use Rattle.rebase_pending.proofs.rebasing.add_left.Goals as goal

pub returns-in_err-check_rows-clause-worlds : goal.returns-in_err-check_rows-clause-worlds
returns-in_err-check_rows-clause-worlds c = λ w old rows f.
    err-match c.from_residual.result c.in_err-check_rows.field-0.0 _ _ c.from_residual.ensures.1
    (⊎_elim (λ e. inl e) (λ e. inr (ap (λ o. first_fault o (lost_fault (first_lost same_name w rows))) e)) (c.in_err-check_rows.ensures w old rows f))

pub returns-in_err-keep_rows-clause-worlds : goal.returns-in_err-keep_rows-clause-worlds
returns-in_err-keep_rows-clause-worlds c = λ w old rows f.
    err-match c.from_residual-in_err-keep_rows.result c.in_err-keep_rows.field-0.0 _ _ c.from_residual-in_err-keep_rows.ensures.1
    (⊎_elim (λ e. inl e) (λ e. inr (ap (λ o. first_fault (conflict_fault o) (lost_fault (first_lost same_name w rows))) (c.in_ok-check_rows.ensures w old rows f) ∙ e)) (c.in_err-keep_rows.ensures.worlds w old rows f))

pub returns-clause-worlds : goal.returns-clause-worlds
returns-clause-worlds c = λ w old rows f.
    let kept = c.in_ok-keep_rows.ensures.worlds w old rows f in
    (ap (λ o. first_fault (conflict_fault o) (lost_fault (first_lost same_name w rows))) (c.in_ok-check_rows.ensures w old rows f) ∙ ap lost_fault kept.0, kept.1)
