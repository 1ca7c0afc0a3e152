use Rattle.change_parts.proofs.Whole.{no-masters}
use Rattle.flush_plan.proofs.building.add_master_section.Goals as goal

pub returns-clause-built : goal.returns-clause-built
returns-clause-built c = λ p is. c.in_ok-add_known.ensures.built _ (c.in_ok-add_runs.ensures.built p (no-masters _ p is))
