use Rattle.std.proofs.Common.{◌∙◌, length, inl, inr, ⊎_elim, ap}
use Rattle.remote_rules.specs.CloneData.{first_broken}
use Rattle.change_parts.specs.Plans.{clone_fault}
use Rattle.clone_plan.specs.Cloning.{counts_refusal, log_refusal}
use Rattle.change_parts.proofs.Refusals.{err-match}
use Rattle.clone_plan.proofs.ToldPlans.{first-here, first-later, honest-planned, log-decides}
use Rattle.clone_plan.proofs.cloning.plan_clone_change.Goals as goal

pub returns-in_err-check_items-clause-honest : goal.returns-in_err-check_items-clause-honest
returns-in_err-check_items-clause-honest c =
    let told = c.args.cloned.now in
    honest-planned c.args.limits (length c.args.bytes.now) told c.from_residual.result
    (err-match c.from_residual.result c.in_err-check_items.field-0.0 _ _ c.from_residual.ensures.1
    (⊎_elim (λ m. inl m) (λ e. inr (first-here (clone_fault (first_broken told)) _ c.in_err-check_items.field-0.0 e)) c.in_err-check_items.ensures.err))

pub returns-in_err-count-clause-honest : goal.returns-in_err-count-clause-honest
returns-in_err-count-clause-honest c =
    let told = c.args.cloned.now in
    honest-planned c.args.limits (length c.args.bytes.now) told c.from_residual-in_err-count.result
    (err-match c.from_residual-in_err-count.result c.in_err-count.field-0.0 _ _ c.from_residual-in_err-count.ensures.1
    (inr (first-later (clone_fault (first_broken told)) _ (ap clone_fault c.in_ok-check_items.ensures.ok)
    ∙ first-here (counts_refusal c.args.limits told) (log_refusal c.args.limits (length c.args.bytes.now) told) c.in_err-count.field-0.0 c.in_err-count.ensures.err)))

pub returns-clause-honest : goal.returns-clause-honest
returns-clause-honest c =
    let told = c.args.cloned.now in
    honest-planned c.args.limits (length c.args.bytes.now) told c.change_told.result
    (log-decides c.args.limits (length c.args.bytes.now) told c.in_ok-check_items.ensures.ok c.in_ok-count.ensures.ok c.change_told.result c.change_told.ensures.told)
