use Rattle.std.proofs.Common.{ℕ, ◌≤◌, ◌↔◌, length, take, drop, ◌-◌, ◌^◌, min}
use Rattle.id_groups.specs.Lists.{IsIn}
use Rattle.commit_graph.specs.Sets as sets
use Rattle.segment_codec.specs.Record.{Segment}
use Rattle.span_set.specs.Members.{IsMember}
use Rattle.ancestor_query.specs.Graph.{table_graph}
use Rattle.range_query.specs.Places.{IsOf}
use Rattle.range_query.specs.Parts.{StandBelow}
use Rattle.range_query.proofs.upward.descendants.Given as goal

abbrev pub invariant-up : goal.invariant-up
invariant-up g l = record {
  within : l.left ≤ length l.set;
  counted : min l.fn.steps.taken (2 ^ 64 - 1) ≤ l.steps.taken;
  passed : (s : Segment) → IsIn s (drop l.k (g.T.SegmentTable.flats l.table)) → StandBelow s.low (drop l.left l.set);
  exact : (x : ℕ) → IsMember l.answer x ↔ (sets.descendants (table_graph (g.T.SegmentTable.flats l.table)) (IsMember l.set) x × IsOf (take l.k (g.T.SegmentTable.flats l.table)) x);
}
