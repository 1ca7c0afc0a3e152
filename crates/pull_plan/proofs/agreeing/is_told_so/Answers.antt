use Rattle.pull_plan.proofs.Beside.{told-is, told-none}
use Rattle.pull_plan.proofs.agreeing.is_told_so.Goals as goal

pub returns-in-Some : goal.returns-in-Some
returns-in-Some c = told-is c.args.told.now c.args.id c.args.name.now c.in-Some.known c.is.result c.in-Some.ensures c.is.ensures

pub returns-in-None : goal.returns-in-None
returns-in-None c = told-none c.args.told.now c.args.id c.args.name.now c.in-None.ensures
