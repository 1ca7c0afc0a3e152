use Rattle.std.proofs.Common.{ℕ, sym, ◌∙◌, arith}
use Rattle.segment_codec.specs.Lent.{segment_of}
use Rattle.batch_codec.specs.Reading.{segments_in, may_stand, behind_segment}
use Rattle.batch_codec.proofs.Records.{so_far-first, so_far-next, so_far-none, so_far-bad, so_far-all, last-behind}
use Rattle.batch_codec.proofs.section.read_segments.Goals as goal

pub records-init : goal.records-init
records-init c = so_far-first ℕ (may_stand c.args.end c.args.first) behind_segment c.args.first c.args.count c.args.bytes.now

pub returns-in_err-segment-clause-exact : goal.returns-in_err-segment-clause-exact
returns-in_err-segment-clause-exact c =
    rw c.from_residual.ensures (so_far-none ℕ (may_stand c.args.end c.args.first) behind_segment c.args.first c.args.count c.args.bytes.now c.records.counter c.records.place c.records.rest.now c.records-test.true c.in_err-segment.ensures.exact c.records.invariant)

pub returns-then-not-fits-clause-exact : goal.returns-then-not-fits-clause-exact
returns-then-not-fits-clause-exact c =
    so_far-bad ℕ (may_stand c.args.end c.args.first) behind_segment c.args.first c.args.count c.args.bytes.now c.records.counter c.records.place c.records.rest.now (segment_of c.in_ok-segment.segment) c.in_ok-segment.after.now c.records-test.true c.in_ok-segment.ensures.exact (sym c.if-not-fits.ensures) c.records.invariant

pub records-preserved : goal.records-preserved
records-preserved c =
    let high = c.number-place.ensures.number ∙ c.high.ensures in
    rw high (so_far-next ℕ (may_stand c.args.end c.args.first) behind_segment c.args.first c.args.count c.args.bytes.now c.records.counter c.records.place c.records.rest.now (segment_of c.in_ok-segment.segment) c.in_ok-segment.after.now
    (λ i. omega (arith, c.type_inv.bytes i)) c.records-test.true c.in_ok-segment.ensures.exact (sym c.if-not-fits.ensures) c.records.invariant)

pub invariant_of-section : goal.invariant_of-section
invariant_of-section c =
    let all = so_far-all ℕ (may_stand c.args.end c.args.first) behind_segment c.args.first c.args.count c.args.bytes.now c.records.counter c.records.place c.records.rest.now c.split_at.result.0.now c.split_at.result.1.now c.records.auto.counter-end c.records-test.false c.records.invariant c.split_at.ensures.front c.split_at.ensures.back in
    record { many = all.many; spelled = all.spelled }

pub returns-clause-exact : goal.returns-clause-exact
returns-clause-exact c =
    (so_far-all ℕ (may_stand c.args.end c.args.first) behind_segment c.args.first c.args.count c.args.bytes.now c.records.counter c.records.place c.records.rest.now c.split_at.result.0.now c.split_at.result.1.now c.records.auto.counter-end c.records-test.false c.records.invariant c.split_at.ensures.front c.split_at.ensures.back).exact

pub returns-clause-behind : goal.returns-clause-behind
returns-clause-behind c =
    (so_far-all ℕ (may_stand c.args.end c.args.first) behind_segment c.args.first c.args.count c.args.bytes.now c.records.counter c.records.place c.records.rest.now c.split_at.result.0.now c.split_at.result.1.now c.records.auto.counter-end c.records-test.false c.records.invariant c.split_at.ensures.front c.split_at.ensures.back).place_is
    ∙ last-behind c.args.first (segments_in c.args.count c.split_at.result.0.now)
