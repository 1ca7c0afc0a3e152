use Rattle.std.proofs.Common.{arith, ◌-◌, ◌<◌, subst, ap}
use Rattle.id_groups.specs.declared.span.IdSpan.{IdSpan}
use Rattle.span_set.proofs.Below.{begin-above-step}
use Rattle.range_query.proofs.between.skip_begun.Goals as goal

pub returns-else-number-clause-above : goal.returns-else-number-clause-above
returns-else-number-clause-above c =
    let some = c.skip-test.true in
    let own = c.skip.invariant.within in
    let low = ap (λ (s : IdSpan). s.low) c.index-spans-to.is in
    begin-above-step c.args.id c.args.spans.now (c.skip.to - 1) c.skip.to c.index-spans-to.result (omega arith) c.requires.canonical (omega arith)
    (subst (λ (s : IdSpan). c.args.id < s.low) c.index-spans-to.is (omega (arith, c.if-number.false, c.number.ensures.number, c.number-in-skip.ensures.number)))
