use Rattle.std.proofs.Common.{rules, ◌≡◌, ◌∷◌, ◌∙◌, ap, sym}
use Rattle.dag_run.proofs.Leading.{adds-start, adds-next, adds-end}
use Rattle.dag_run.proofs.demo.answer_commits.Goals as goal

pub commits-init : goal.commits-init
commits-init g c = record {
  ready = c.requires.ready;
  adds = adds-start c.args.lines.now c.args.store c.requires.begins;
}

pub commits-preserved : goal.commits-preserved
commits-preserved g c =
    let same : c.deref.result.now ≡ c.in-Some.line.items = search rules in record {
      ready = c.in_ok-store.ensures.ready;
      adds = adds-next c.args.lines.now c.commits.lines c.next_line.new.self c.deref.result.now c.commits.unheard.taken c.answer.new.replies.taken c.commits.store c.in_ok-store.store c.commits.invariant.adds
          ((rw c.in-Some.is at c.in_ok-line.ensures.ok) ∙ ap (λ l. l ∷ c.next_line.new.self) (sym same)) c.in_ok-store.ensures.leads;
    }

pub returns-clause-behind : goal.returns-clause-behind
returns-clause-behind g c = adds-end c.args.lines.now c.commits.lines c.commits.store c.commits.invariant.adds (rw c.in_default.is at c.in_ok-line.ensures.ok).0
