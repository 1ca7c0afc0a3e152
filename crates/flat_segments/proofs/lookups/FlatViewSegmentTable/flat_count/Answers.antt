use Rattle.flat_segments.proofs.Looking.{view-length}
use Rattle.flat_segments.proofs.lookups.FlatViewSegmentTable.flat_count.Goals as goal

pub returns : goal.returns
returns c = view-length c.args.self.now
