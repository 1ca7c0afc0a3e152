use Rattle.segment_codec.specs.Lent.{segment_of}
use Rattle.flat_segments.proofs.Batches.{shorter}
use Rattle.flat_segments.proofs.Callers.{read-none, read-one}
use Rattle.sample_tables.proofs.levels.grow.are_records.Goals as goal

pub records-init : goal.records-init
records-init c = read-none c.args.bytes.now

pub records-smaller : goal.records-smaller
records-smaller c = shorter (segment_of c.in-Some.field-0-0) c.records.rest.now c.in-Some.after.now c.in-Some.ensures.found.1

pub records-preserved : goal.records-preserved
records-preserved c =
    read-one c.args.bytes.now c.records.rest.now c.in-Some.after.now c.records.room (segment_of c.in-Some.field-0-0) c.records.invariant c.in-Some.ensures.found.0 c.in-Some.ensures.found.1 c.if-room-eq0.false
