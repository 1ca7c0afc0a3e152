use Rattle.std.proofs.Common.{◌≤◌, ◌-◌, length}
use Rattle.edge_index.specs.Index.{HaveEdges}
use Rattle.edge_index.proofs.finding.found_edges.Given as goal

abbrev pub invariant-segments : goal.invariant-segments
invariant-segments g l =
    let flats = g.T.SegmentTable.flats l.fn.table in
    record {
      edges : HaveEdges l.found.items l.fn.from l.count flats;
      few : l.fn.from ≤ length flats → l.count ≤ length flats;
    }

abbrev pub decreases-segments : goal.decreases-segments
decreases-segments g l = l.upto - l.count
