use Rattle.segment_codec.specs.Lent.{segment_of}
use Rattle.batch_codec.specs.Lent.{lent_ids}
use Rattle.batch_codec.proofs.Records.{needed-none, needed-bad, needed-next, needed-end}
use Rattle.batch_codec.proofs.rules.knows_what_is_needed.Goals as goal

pub returns-in_default : goal.returns-in_default
returns-in_default c = needed-none c.args.cloned (lent_ids c.args.known) c.args.section.count c.records.counter c.records.rest.now _ c.records-test.true c.in_default.ensures.exact c.records.invariant

pub returns-then-not-knows_segment_of : goal.returns-then-not-knows_segment_of
returns-then-not-knows_segment_of c =
    needed-bad c.args.cloned (lent_ids c.args.known) c.args.section.count c.records.counter c.records.rest.now (segment_of c.in-Some.segment) c.in-Some.after.now _ c.records-test.true c.in-Some.ensures.exact c.if-not-knows_segment_of.ensures c.records.invariant

pub records-preserved : goal.records-preserved
records-preserved c =
    needed-next c.args.cloned (lent_ids c.args.known) c.args.section.count c.records.counter c.records.rest.now (segment_of c.in-Some.segment) c.in-Some.after.now _ c.records-test.true c.in-Some.ensures.exact c.if-not-knows_segment_of.ensures c.records.invariant

pub returns : goal.returns
returns c = needed-end c.args.cloned (lent_ids c.args.known) c.args.section.count c.records.counter c.records.rest.now _ c.records-test.false c.records.invariant
