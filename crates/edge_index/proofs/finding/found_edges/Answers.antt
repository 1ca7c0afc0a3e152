use Rattle.std.proofs.Common.{arith}
use Rattle.segment_codec.specs.Edges.{edge_of}
use Rattle.segment_codec.specs.Lent.{segment_of}
use Rattle.edge_index.proofs.Found.{have-more}
use Rattle.edge_index.proofs.finding.found_edges.Goals as goal

pub returns-then-not-branch-clause-edges : goal.returns-then-not-branch-clause-edges
returns-then-not-branch-clause-edges g c = λ k s p le lt get i. c.in_ok-add_edges.ensures.keeps (edge_of p k) (c.segments.invariant.edges k s p le lt get i)

pub segments-preserved : goal.segments-preserved
segments-preserved g c = record {
  edges = have-more c.segments.found.items c.add_edges.new.found.items c.args.from c.segments.count (g.T.SegmentTable.flats c.args.table.now) (segment_of c.flat_at-segment.result)
      c.segments.invariant.edges c.flat_at-segment.ensures.found c.in_ok-add_edges.ensures.keeps (c.in_ok-add_edges.ensures.edges c.if-not-branch.false);
  few = λ le. let lt = c.segments-test.true in let room = c.requires in omega (arith, lt, room);
}
