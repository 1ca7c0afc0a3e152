use Rattle.remote_bundle.specs.Segments.{segments_in}
use Rattle.high_segments.proofs.Edging.{edged-means}
use Rattle.remote_bundle.proofs.lookups.SegmentsSegmentTable.edges.Goals as goal

pub returns : goal.returns
returns c =
    let v = c.args.self.now in
    record { order = v.ordered; whole = edged-means v.edges.items.now v.edges.count (segments_in v) v.edged }
