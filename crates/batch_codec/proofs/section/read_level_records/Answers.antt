use Rattle.std.proofs.Common.{ℕ, sym, ◌∙◌, arith}
use Rattle.segment_codec.specs.Lent.{segment_of}
use Rattle.batch_codec.specs.Reading.{may_rise, behind_level}
use Rattle.batch_codec.proofs.Records.{so_far-first, so_far-next, so_far-none, so_far-bad, so_far-all}
use Rattle.batch_codec.proofs.section.read_level_records.Goals as goal

pub records-init : goal.records-init
records-init c = so_far-first (ℕ × ℕ) (may_rise c.args.end) behind_level (1, 0) c.args.count c.args.bytes.now

pub returns-in_err-segment-clause-exact : goal.returns-in_err-segment-clause-exact
returns-in_err-segment-clause-exact c =
    rw c.from_residual.ensures (so_far-none (ℕ × ℕ) (may_rise c.args.end) behind_level (1, 0) c.args.count c.args.bytes.now c.records.counter (c.records.level, c.records.low) c.records.rest.now c.records-test.true c.in_err-segment.ensures.exact c.records.invariant)

pub returns-then-not-may_come-clause-exact : goal.returns-then-not-may_come-clause-exact
returns-then-not-may_come-clause-exact c =
    so_far-bad (ℕ × ℕ) (may_rise c.args.end) behind_level (1, 0) c.args.count c.args.bytes.now c.records.counter (c.records.level, c.records.low) c.records.rest.now (segment_of c.in_ok-segment.segment) c.in_ok-segment.after.now c.records-test.true c.in_ok-segment.ensures.exact (sym c.if-not-may_come.ensures) c.records.invariant

pub records-preserved : goal.records-preserved
records-preserved c =
    let low = c.number-low.ensures.number ∙ c.low.ensures in
    rw (low, c.level-level.ensures) (so_far-next (ℕ × ℕ) (may_rise c.args.end) behind_level (1, 0) c.args.count c.args.bytes.now c.records.counter (c.records.level, c.records.low) c.records.rest.now (segment_of c.in_ok-segment.segment) c.in_ok-segment.after.now
    (λ i. omega (arith, c.type_inv.bytes i)) c.records-test.true c.in_ok-segment.ensures.exact (sym c.if-not-may_come.ensures) c.records.invariant)

pub invariant_of-section : goal.invariant_of-section
invariant_of-section c =
    let all = so_far-all (ℕ × ℕ) (may_rise c.args.end) behind_level (1, 0) c.args.count c.args.bytes.now c.records.counter (c.records.level, c.records.low) c.records.rest.now c.split_at.result.0.now c.split_at.result.1.now c.records.auto.counter-end c.records-test.false c.records.invariant c.split_at.ensures.front c.split_at.ensures.back in
    record { many = all.many; spelled = all.spelled }

pub returns-clause-exact : goal.returns-clause-exact
returns-clause-exact c =
    (so_far-all (ℕ × ℕ) (may_rise c.args.end) behind_level (1, 0) c.args.count c.args.bytes.now c.records.counter (c.records.level, c.records.low) c.records.rest.now c.split_at.result.0.now c.split_at.result.1.now c.records.auto.counter-end c.records-test.false c.records.invariant c.split_at.ensures.front c.split_at.ensures.back).exact
