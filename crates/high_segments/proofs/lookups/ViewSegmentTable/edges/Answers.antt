use Rattle.high_segments.specs.Views.{flats_in}
use Rattle.high_segments.proofs.Edging.{edged-means}
use Rattle.high_segments.proofs.lookups.ViewSegmentTable.edges.Goals as goal

pub returns : goal.returns
returns c =
    let v = c.args.self.now in
    record { order = v.ordered; whole = edged-means v.edges.items.now v.edges.count (flats_in v) v.edged }
