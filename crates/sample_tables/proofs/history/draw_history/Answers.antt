use Rattle.std.proofs.Common.{◌≡◌, ◌+◌, ◌-◌, ap, arith, sym, subst, ◌∙◌}
use Rattle.sample_tables.specs.declared.history.Begin.{Begin}
use Rattle.sample_tables.specs.Drawn.{MayBegin}
use Rattle.sample_tables.specs.Samples.{Written}
use Rattle.sample_tables.proofs.Histories.{Draws, Waits, goes-on, begins, ends}
use Rattle.sample_tables.proofs.history.draw_history.Goals as goal
use Rattle.sample_tables.proofs.history.draw_history.Goals.{in-Some+in_ok-push_begun, in_default}

pub commits-preserved : goal.commits-preserved
commits-preserved c =
    let before = c.commits.invariant in
    let end = before.0 in
    let more = c.commits-test.true in
    elim c.match-drawn_begin.branch [
      | in-Some+in_ok-push_begun w ↦
          subst (λ (s : Written). Waits c.args.rule c.args.start c.args.commits (c.commits.i + 1) s c.match-drawn_begin.«open» c.state_for-random.result) (sym w.sample-is)
          (subst (λ (o : Begin). Waits c.args.rule c.args.start c.args.commits (c.commits.i + 1) w.push_begun.new.sample o c.state_for-random.result) (sym w.open-is)
          (let size = w.count.ensures in let ends-at = w.in_ok-push_begun.ensures.count in
          let new-end : c.commits.i ≡ w.push_begun.new.sample.table.end = omega (arith, size, ends-at, end) in (
            omega (arith, new-end),
            omega (arith, more),
            subst (λ n. MayBegin n w.in-Some.next) new-end w.in-Some.ensures.may,
            begins c.args.rule c.args.start c.commits.i (c.commits.i + 1) c.commits.sample w.push_begun.new.sample c.commits.«open» w.in-Some.next (c.commits.i - w.count.result)
                c.commits.random c.state_for-random.result end (omega arith) before.3 c.state_for-random.ensures (sym w.in-Some.is ∙ c.drawn_begin.ensures.drawn)
                (ap (λ n. c.commits.i - n) size) w.in_ok-push_begun.ensures.added ends-at,
          )))
      | in_default w ↦
          subst (λ (s : Written). Waits c.args.rule c.args.start c.args.commits (c.commits.i + 1) s c.match-drawn_begin.«open» c.state_for-random.result) (sym w.sample-is)
          (subst (λ (o : Begin). Waits c.args.rule c.args.start c.args.commits (c.commits.i + 1) c.commits.sample o c.state_for-random.result) (sym w.open-is) (
            omega (arith, end),
            omega (arith, more),
            before.2,
            goes-on c.args.rule c.args.start c.commits.i (c.commits.i + 1) c.commits.sample c.commits.«open» c.commits.random c.state_for-random.result
                (omega (arith, end)) (omega arith) before.3 c.state_for-random.ensures (sym w.in_default.is ∙ c.drawn_begin.ensures.drawn),
          ))
    ]

pub returns-clause-parents : goal.returns-clause-parents
returns-clause-parents c =
    let before = c.commits.invariant in
    let end = before.0 in let least = before.1 in let stop = c.commits-test.false in
    let all : c.commits.i ≡ c.args.commits = omega (arith, least, stop) in
    ends c.args.rule c.args.start c.args.commits c.commits.sample c.push_begun-2.new.sample c.commits.«open» (c.args.commits - c.count-2.result) c.commits.random
    (omega (arith, end, all)) (subst (λ n. Draws c.args.rule c.args.start n c.commits.sample c.commits.«open» c.commits.random) all before.3)
    (ap (λ n. c.args.commits - n) c.count-2.ensures) c.in_ok-push_begun-2.ensures.added
