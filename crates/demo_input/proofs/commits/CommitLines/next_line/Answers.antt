use Rattle.std.proofs.Common.{rules, ◌≡◌, ◌∙◌, ◌<◌, ◌≤◌, ◌-◌, arith, sym, subst, false, length}
use Rattle.demo_input.proofs.Steps.{commit-next}
use Rattle.demo_input.proofs.Lengths.{add-short, flush-short}
use Rattle.demo_input.proofs.commits.CommitLines.next_line.Goals as goal

pub returns-clause-ok : goal.returns-clause-ok
returns-clause-ok c =
    let within : c.self.inside.commit < c.self.inside.size = omega (arith, c.self.invariant.0, c.if-self-2.false) in
    let none : c.self.inside.is_flush_due ≡ false = search rules in
    sym c.self.view_is ∙ commit-next c.self.inside.size c.self.inside.start c.self.inside.commit c.self.inside.number c.number_for-number.result
    c.self.inside.is_flush_due c.is_flushed-self-inside.result c.in_ok-line-2.line.items within c.self.invariant.1
    c.number_for-number.ensures c.in_ok-line-2.ensures none c.is_flushed-self-inside.ensures

pub returns-then-self-clause-short : goal.returns-then-self-clause-short
returns-then-self-clause-short c = subst (λ line. length line ≤ 128) (sym c.in_ok-line.ensures) (flush-short (c.self.inside.commit - 1))

pub returns-clause-short : goal.returns-clause-short
returns-clause-short c = subst (λ line. length line ≤ 128) (sym c.in_ok-line-2.ensures) (add-short c.self.inside.commit c.number_for-number.result)
