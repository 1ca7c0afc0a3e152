use Rattle.change_parts.proofs.Whole.{no-others}
use Rattle.flush_plan.proofs.building.add_others_section.Goals as goal

pub returns-clause-built : goal.returns-clause-built
returns-clause-built c = λ p is. c.other_count.ensures.built _ (c.in_ok-add_other_names.ensures.built _ (c.in_ok-add_runs.ensures.built p (no-others _ p is)))
