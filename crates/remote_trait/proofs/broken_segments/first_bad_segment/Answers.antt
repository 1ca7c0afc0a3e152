use Rattle.remote_trait.proofs.Items.{segment-next, segment-bad, segments-end}
use Rattle.remote_trait.proofs.broken_segments.first_bad_segment.Goals as goal

pub segments-preserved : goal.segments-preserved
segments-preserved c =
    let next = segment-next c.args.segments.now c.segments.place c.segments.k c.index-segments-k.result c.segments.invariant c.segments-test.true c.index-segments-k.is c.if-not-fits.ensures in
    rw c.end_of-place.ensures next

pub returns-then-not-fits : goal.returns-then-not-fits
returns-then-not-fits c =
    segment-bad c.args.segments.now c.segments.place c.segments.k c.index-segments-k.result c.segments.invariant c.segments-test.true c.index-segments-k.is c.if-not-fits.ensures

pub returns : goal.returns
returns c = segments-end c.args.segments.now c.segments.place c.segments.k c.segments.invariant c.segments-test.false
