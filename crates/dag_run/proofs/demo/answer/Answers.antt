use Rattle.std.proofs.Common.{refl, map, ap, ◌∙◌}
use Rattle.outside.specs.Counts.{Rose}
use Rattle.dag_run.proofs.Leading.{ready-next, leads-next}
use Rattle.dag_run.proofs.demo.answer.Goals as goal

pub returns-clause-ready : goal.returns-clause-ready
returns-clause-ready g c =
    let step = c.execute.ensures in
    ready-next c.args.store step.payload step.clock c.execute.result (g.D.Disk.told c.args.log.now) (g.D.Disk.told c.execute.new.reach.0) c.requires.ready step.ends.limits step.leaves

pub returns-clause-leads : goal.returns-clause-leads
returns-clause-leads g c =
    let step = c.execute.ensures in
    leads-next _ _ (Rose c.args.replies.now.faults c.execute.new.output.faults) c.args.line.now c.args.store step.payload step.clock c.execute.result c.args.replies.now.taken c.execute.new.output.taken
    (c.new-mirrors.ensures ∙ ap (map _) c.new.ensures.items) c.requires.ready.0 (step.tells c.args.line.now (refl, c.requires.short))
