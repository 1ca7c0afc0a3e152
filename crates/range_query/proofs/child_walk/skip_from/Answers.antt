use Rattle.std.proofs.Common.{arith, ◌+◌, ap}
use Rattle.id_groups.specs.declared.span.IdSpan.{IdSpan}
use Rattle.range_query.proofs.Pieces.{stand-more}
use Rattle.range_query.proofs.child_walk.skip_from.Goals as goal

pub skip-preserved : goal.skip-preserved
skip-preserved c =
    let test = c.skip-test.true in
    let low = ap (λ (s : IdSpan). s.low) c.index-spans-to.is in
    record {
      within = omega arith;
      passed = λ h. stand-more c.args.id c.args.spans.now c.skip.to (c.skip.to + 1) c.index-spans-to.result test (omega arith) c.index-spans-to.is
          (omega arith) (c.skip.invariant.passed h);
    }
