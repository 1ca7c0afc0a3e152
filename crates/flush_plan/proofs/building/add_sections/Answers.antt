use Rattle.flush_plan.proofs.building.add_sections.Goals as goal

pub returns-clause-built : goal.returns-clause-built
returns-clause-built c = λ p is. c.in_ok-add_others_section.ensures.built _ (c.in_ok-add_master_section.ensures.built p is)
