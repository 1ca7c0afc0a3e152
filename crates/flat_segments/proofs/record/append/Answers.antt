use Rattle.std.proofs.Common.{◌∙◌, length, sym, arith, refl, true≢false}
use Rattle.std.proofs.lemmas.Bool.{eqb-false, eqb-true}
use Rattle.segment_codec.specs.Lent.{segment_of}
use Rattle.flat_segments.proofs.Batches.{is-broken, is-counted, goes-on, is-all, bad-number, shorter, some-left, passed-first, no-record}
use Rattle.flat_segments.proofs.record.append.Goals as goal

pub pass_segment-requires : goal.pass_segment-requires
pass_segment-requires c =
    let w = c.requires.records in
    let p = c.records.invariant.keeps w.0 w.1 in
    some-left p.left c.records.rest.now p.each p.rest_is (eqb-false (length c.records.rest.now) 0 (sym c.records-test.ensures))

pub may_stand_at-requires-clause-segment : goal.may_stand_at-requires-clause-segment
may_stand_at-requires-clause-segment c =
    let w = c.requires.records in
    let p = c.records.invariant.keeps w.0 w.1 in
    (passed-first p.left c.records.rest.now c.pass_segment.result.1.now (segment_of c.pass_segment.result.0) p.each p.rest_is (eqb-false (length c.records.rest.now) 0 (sym c.records-test.ensures)) c.pass_segment.ensures).0

pub returns-then-not-may_stand_at-clause-bad : goal.returns-then-not-may_stand_at-clause-bad
returns-then-not-may_stand_at-clause-bad c = λ segments k are same.
    let p = c.records.invariant.keeps segments are in
    let t = passed-first p.left c.records.rest.now c.pass_segment.result.1.now (segment_of c.pass_segment.result.0) p.each p.rest_is (eqb-false (length c.records.rest.now) 0 (sym c.records-test.ensures)) c.pass_segment.ensures in
    is-broken c.args.first c.args.at c.args.records.now c.args.entries.now.items c.records.entries.items c.records.next c.records.number c.records.rest.now c.records.invariant
    (segment_of c.pass_segment.result.0) c.pass_segment.result.1.now segments k t.0 t.1 (λ may. true≢false (sym (c.if-not-may_stand_at.ensures.1 may))) are (sym (bad-number _ _ same))

pub overflow_add-number : goal.overflow_add-number
overflow_add-number c =
    let w = c.requires.records in
    let p = c.records.invariant.keeps w.0 w.1 in
    let t = passed-first p.left c.records.rest.now c.pass_segment.result.1.now (segment_of c.pass_segment.result.0) p.each p.rest_is (eqb-false (length c.records.rest.now) 0 (sym c.records-test.ensures)) c.pass_segment.ensures in
    let lt = is-counted c.args.first c.args.at c.args.records.now c.args.entries.now.items c.records.entries.items c.records.next c.records.number c.records.rest.now c.records.invariant
    (segment_of c.pass_segment.result.0) c.pass_segment.result.1.now w.0 t.0 t.1 w.1 in
    let few = w.2 in omega (arith, lt, few)

pub records-smaller : goal.records-smaller
records-smaller c =
    let w = c.requires.records in
    let p = c.records.invariant.keeps w.0 w.1 in
    let t = passed-first p.left c.records.rest.now c.pass_segment.result.1.now (segment_of c.pass_segment.result.0) p.each p.rest_is (eqb-false (length c.records.rest.now) 0 (sym c.records-test.ensures)) c.pass_segment.ensures in
    shorter (segment_of c.pass_segment.result.0) c.records.rest.now c.pass_segment.result.1.now t.1

pub records-preserved : goal.records-preserved
records-preserved c =
    let w = c.requires.records in
    let p = c.records.invariant.keeps w.0 w.1 in
    let t = passed-first p.left c.records.rest.now c.pass_segment.result.1.now (segment_of c.pass_segment.result.0) p.each p.rest_is (eqb-false (length c.records.rest.now) 0 (sym c.records-test.ensures)) c.pass_segment.ensures in
    let high = c.number-next.ensures.number ∙ c.high.ensures in
    rw high (goes-on c.args.first c.args.at c.args.records.now c.args.entries.now.items c.records.entries.items c.records.next c.records.number c.records.rest.now c.records.invariant
    (segment_of c.pass_segment.result.0) c.pass_segment.result.1.now _ _ t.0 t.1 (c.if-not-may_stand_at.ensures.0 refl) refl c.in_ok-keep.ensures.ok)

pub returns-clause-stand : goal.returns-clause-stand
returns-clause-stand c = λ segments are.
    (is-all c.args.first c.args.at c.args.records.now c.args.entries.now.items c.records.entries.items c.records.next c.records.number c.records.rest.now c.records.invariant
    segments are (λ s after is whole. no-record s c.records.rest.now after (eqb-true (length c.records.rest.now) 0 (sym c.records-test.ensures)) whole)).stand

pub returns-clause-end : goal.returns-clause-end
returns-clause-end c = λ segments are.
    (is-all c.args.first c.args.at c.args.records.now c.args.entries.now.items c.records.entries.items c.records.next c.records.number c.records.rest.now c.records.invariant
    segments are (λ s after is whole. no-record s c.records.rest.now after (eqb-true (length c.records.rest.now) 0 (sym c.records-test.ensures)) whole)).end

pub returns-clause-kept : goal.returns-clause-kept
returns-clause-kept c = λ segments are.
    (is-all c.args.first c.args.at c.args.records.now c.args.entries.now.items c.records.entries.items c.records.next c.records.number c.records.rest.now c.records.invariant
    segments are (λ s after is whole. no-record s c.records.rest.now after (eqb-true (length c.records.rest.now) 0 (sym c.records-test.ensures)) whole)).kept
