use Rattle.flat_segments.specs.Views.{view_flats}
use Rattle.high_segments.proofs.Edging.{edged-means}
use Rattle.walk_rows.proofs.edged.EdgedSegmentTable.edges.Goals as goal

pub returns : goal.returns
returns c =
    let v = c.args.self.now in
    record { order = v.ordered; whole = edged-means v.edges.items.now v.edges.count (view_flats v.flat) v.edged }
