use Rattle.std.proofs.Common.{List, IfOk, subst}
use Rattle.step_rules.specs.Reply.{Reply}
use Rattle.dag_run.specs.Demo.{IsBehind}
use Rattle.dag_run.proofs.demo.add_commits.Goals as goal

pub returns-clause-behind : goal.returns-clause-behind
returns-clause-behind g c = subst (λ all. IfOk c.answer_commits.result (λ store. (earlier : List Reply) × IsBehind all earlier store)) c.new-lines.ensures c.answer_commits.ensures.behind
