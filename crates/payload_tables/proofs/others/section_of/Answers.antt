use Rattle.std.proofs.Common.{refl, sym, arith, length}
use Rattle.std.proofs.lemmas.Bool.{eqb-false, eqb-true}
use Rattle.segment_codec.specs.Lent.{segment_of}
use Rattle.flat_segments.proofs.Batches.{shorter}
use Rattle.payload_tables.proofs.Sectioning.{may-push, so-far, all-done, some-left, passed-first, no-record}
use Rattle.payload_tables.proofs.others.section_of.Goals as goal

pub pass_segment-requires : goal.pass_segment-requires
pass_segment-requires c =
    let r = c.requires.records in
    let f = c.records.invariant r.0 r.1 in
    some-left f.left c.records.rest.now f.each f.rest_is (eqb-false (length c.records.rest.now) 0 (sym c.records-test.ensures))

pub overflow_sub-records : goal.overflow_sub-records
overflow_sub-records c = let r = c.requires.records in let f = c.records.invariant r.0 r.1 in let size = f.size in omega (arith, size)

pub push-requires : goal.push-requires
push-requires c =
    let r = c.requires.records in
    let f = c.records.invariant r.0 r.1 in
    let p = passed-first f.left c.records.rest.now c.pass_segment.result.1.now (segment_of c.pass_segment.result.0) f.each f.rest_is (eqb-false (length c.records.rest.now) 0 (sym c.records-test.ensures)) c.pass_segment.ensures in
    may-push c.args.at c.args.records.now c.records.section c.records.rest.now r.0 r.1 f (segment_of c.pass_segment.result.0) c.pass_segment.result.1.now p.0 p.1

pub records-smaller : goal.records-smaller
records-smaller c =
    let r = c.requires.records in
    let f = c.records.invariant r.0 r.1 in
    let p = passed-first f.left c.records.rest.now c.pass_segment.result.1.now (segment_of c.pass_segment.result.0) f.each f.rest_is (eqb-false (length c.records.rest.now) 0 (sym c.records-test.ensures)) c.pass_segment.ensures in
    shorter (segment_of c.pass_segment.result.0) c.records.rest.now c.pass_segment.result.1.now p.1

pub records-preserved : goal.records-preserved
records-preserved c = λ segments a.
    let f = c.records.invariant segments a in
    let p = passed-first f.left c.records.rest.now c.pass_segment.result.1.now (segment_of c.pass_segment.result.0) f.each f.rest_is (eqb-false (length c.records.rest.now) 0 (sym c.records-test.ensures)) c.pass_segment.ensures in
    so-far c.args.at c.args.records.now c.records.section c.records.rest.now segments a f (segment_of c.pass_segment.result.0) c.pass_segment.result.1.now p.0 p.1
    c.push.new.self _ refl (c.in_ok-push.ensures.section _ f.is)

pub returns : goal.returns
returns c = λ segments a.
    all-done c.args.at c.args.records.now c.records.section c.records.rest.now segments (c.records.invariant segments a)
    (λ s after is whole. no-record s c.records.rest.now after (eqb-true (length c.records.rest.now) 0 (sym c.records-test.ensures)) whole)
