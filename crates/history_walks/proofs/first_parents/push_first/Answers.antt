use Rattle.history_walks.proofs.Firsts.{with-first}
use Rattle.history_walks.proofs.first_parents.push_first.Goals as goal

pub returns-in-Some : goal.returns-in-Some
returns-in-Some c = with-first c.push.result c.args.work.now c.push.new.self _ _ c.in-Some.parent c.in-Some.ensures.steps c.push.ensures.all
