use Rattle.std.proofs.Common.{rules, ◌≡◌, map, sym, subst}
use Rattle.std.specs.List.{AllByRecursion}
use Rattle.demo_input.specs.Lines.{last_lines}
use Rattle.dag_run.specs.Demo.{IsAnswered}
use Rattle.dag_run.proofs.Leading.{last-answered, last-replies}
use Rattle.dag_run.proofs.demo.replies_over.Goals as goal

pub ask-requires-clause-answered : goal.ask-requires-clause-answered
ask-requires-clause-answered g c =
    let same : c.deref.result.now ≡ c.in_ok-lines.lines.items = search rules in
    let all = subst (AllByRecursion IsAnswered) (sym c.in_ok-lines.ensures) (last-answered c.args.size) in
    subst (λ ls. AllByRecursion IsAnswered (map (λ line. line.items) ls)) (sym same) all

pub returns : goal.returns
returns g c =
    let same : c.deref.result.now ≡ c.in_ok-lines.lines.items = search rules in
    let is = subst (λ ls. map (λ line. line.items) ls ≡ last_lines c.args.size) (sym same) c.in_ok-lines.ensures in
    last-replies c.args.size c.args.start (map (λ line. line.items) c.deref.result.now) c.in_ok-store.store c.ask.result is c.in_ok-store.ensures.behind c.ask.ensures
