use Rattle.segment_codec.specs.Lent.{segment_of}
use Rattle.flat_segments.proofs.Batches.{shorter}
use Rattle.payload_tables.proofs.Heading.{ends-more, ends-done}
use Rattle.payload_tables.proofs.heads.ends_of.Goals as goal

pub records-smaller : goal.records-smaller
records-smaller c = shorter (segment_of c.in-Some.segment) c.records.rest.now c.in-Some.after.now c.in-Some.ensures.found.1

pub records-preserved : goal.records-preserved
records-preserved c = λ segments a.
    ends-more c.args.below c.records.highs.items c.records.parents.items c.records.rest.now segments (c.records.invariant segments a) (segment_of c.in-Some.segment) c.in-Some.after.now c.in-Some.ensures.found.0 c.in-Some.ensures.found.1
    c.add_ends.new.highs.items c.add_ends.new.parents.items c.in_ok-add_ends.ensures.highs c.in_ok-add_ends.ensures.parents

pub returns-clause-highs : goal.returns-clause-highs
returns-clause-highs c = λ segments a. (ends-done c.args.below c.records.highs.items c.records.parents.items c.records.rest.now segments (c.records.invariant segments a) c.in_default.ensures.only).0

pub returns-clause-parents : goal.returns-clause-parents
returns-clause-parents c = λ segments a. (ends-done c.args.below c.records.highs.items c.records.parents.items c.records.rest.now segments (c.records.invariant segments a) c.in_default.ensures.only).1
