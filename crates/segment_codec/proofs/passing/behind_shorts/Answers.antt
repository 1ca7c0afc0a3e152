use Rattle.std.proofs.Common.{arith}
use Rattle.segment_codec.proofs.PastNumbers.{pass-next}
use Rattle.segment_codec.proofs.passing.behind_shorts.Goals as goal

pub numbers-preserved : goal.numbers-preserved
numbers-preserved c =
    let less = c.in_ok-rest.ensures.len in
    let len = c.numbers.invariant.len in
    record {
      passed = pass-next c.args.count c.numbers.counter c.args.bytes.now c.numbers.rest.now c.in_ok-rest.rest.now c.numbers-test.true c.in_ok-rest.ensures.rest c.numbers.invariant.passed;
      len = omega (arith, less, len);
    }
