use Rattle.flat_segments.specs.Views.{view_flats}
use Rattle.flat_segments.proofs.lookups.FlatViewSegmentTable.edges.Goals as goal

-- src/lookups.rt:112:5
pub returns : goal.returns
returns c = c.none.ensures (view_flats c.args.self.now)
