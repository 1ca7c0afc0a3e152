use Rattle.change_parts.proofs.Whole.{no-others}
use Rattle.strip_plan.proofs.lent_runs.add_lent_section.Goals as goal

pub returns-clause-built : goal.returns-clause-built
returns-clause-built c = λ p is. c.other_count.ensures.built _ (c.in_ok-add_other_names.ensures.built _ (c.in_ok-add_lent_runs.ensures.built p (no-others _ p is)))
