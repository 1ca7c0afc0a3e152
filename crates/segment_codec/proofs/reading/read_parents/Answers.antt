use Rattle.std.proofs.Common.{◌≤◌, ◌^◌, arith, lit≤}
use Rattle.segment_codec.specs.Number.{numbers_in}
use Rattle.segment_codec.proofs.Lists.{so_far-next, so_far-none, so_far-large, so_far-all, all-below, numbers_take}
use Rattle.segment_codec.proofs.reading.read_parents.Goals as goal

pub returns-in_err-number-clause-exact : goal.returns-in_err-number-clause-exact
returns-in_err-number-clause-exact c =
    rw c.from_residual.ensures (so_far-none c.args.end c.args.count c.args.bytes.now c.numbers.counter c.numbers.rest.now c.numbers-test.true c.in_err-number.ensures c.numbers.invariant)

pub returns-then-number-end-clause-exact : goal.returns-then-number-end-clause-exact
returns-then-number-end-clause-exact c =
    so_far-large c.args.end c.args.count c.args.bytes.now c.numbers.counter c.numbers.rest.now c.in_ok-number.number c.in_ok-number.after.now c.numbers-test.true c.if-number-end.true c.in_ok-number.ensures c.numbers.invariant

pub numbers-preserved : goal.numbers-preserved
numbers-preserved c =
    so_far-next c.args.end c.args.count c.args.bytes.now c.numbers.counter c.numbers.rest.now c.in_ok-number.number c.in_ok-number.after.now (λ i. omega (arith, c.type_inv.bytes i)) c.numbers-test.true c.if-number-end.false c.in_ok-number.ensures c.numbers.invariant

pub invariant_of-result : goal.invariant_of-result
invariant_of-result c =
    let k : 2 ^ 57 ≤ 2 ^ 64 = lit≤ tt in
    let small = c.requires in
    let all = so_far-all c.args.end c.args.count c.args.bytes.now c.numbers.counter c.numbers.rest.now c.split_at.result.0.now c.split_at.result.1.now (omega (arith, k, small)) c.numbers-test.false c.numbers.invariant c.split_at.ensures.front c.split_at.ensures.back in
    record { spelled = all.spelled; valid = all-below c.args.end (2 ^ 57) _ (omega (arith, small)) all.below }

pub returns-clause-exact : goal.returns-clause-exact
returns-clause-exact c =
    let k : 2 ^ 57 ≤ 2 ^ 64 = lit≤ tt in
    let small = c.requires in
    (so_far-all c.args.end c.args.count c.args.bytes.now c.numbers.counter c.numbers.rest.now c.split_at.result.0.now c.split_at.result.1.now (omega (arith, k, small)) c.numbers-test.false c.numbers.invariant c.split_at.ensures.front c.split_at.ensures.back).exact

pub returns-clause-below : goal.returns-clause-below
returns-clause-below c =
    let k : 2 ^ 57 ≤ 2 ^ 64 = lit≤ tt in
    let small = c.requires in
    (so_far-all c.args.end c.args.count c.args.bytes.now c.numbers.counter c.numbers.rest.now c.split_at.result.0.now c.split_at.result.1.now (omega (arith, k, small)) c.numbers-test.false c.numbers.invariant c.split_at.ensures.front c.split_at.ensures.back).below

pub returns-clause-count : goal.returns-clause-count
returns-clause-count c =
    let k : 2 ^ 57 ≤ 2 ^ 64 = lit≤ tt in
    let small = c.requires in
    let all = so_far-all c.args.end c.args.count c.args.bytes.now c.numbers.counter c.numbers.rest.now c.split_at.result.0.now c.split_at.result.1.now (omega (arith, k, small)) c.numbers-test.false c.numbers.invariant c.split_at.ensures.front c.split_at.ensures.back in
    (numbers_take c.args.end c.args.count c.args.bytes.now (numbers_in c.split_at.result.0.now, c.split_at.result.1.now) (λ i. omega (arith, c.type_inv.bytes i)) all.exact).many
