use Rattle.std.proofs.Common.{ℕ, ◌≤◌, ◌<◌, ◌⊎◌, length, take, ◌-◌, ◌^◌, min}
use Rattle.commit_graph.specs.Sets as sets
use Rattle.span_set.specs.Members.{IsMember, IsCanonical}
use Rattle.ancestor_query.specs.Graph.{table_graph}
use Rattle.range_query.specs.Parts.{StandFrom}
use Rattle.range_query.proofs.child_walk.add_between.Given as goal

abbrev pub invariant-down : goal.invariant-down
invariant-down g l = record {
  bound : l.below ≤ l.stretch.end;
  within : l.at ≤ length l.set;
  passed : StandFrom l.below (take l.at l.set);
  canonical : IsCanonical l.fn.answer → IsCanonical l.answer;
  counted : min l.fn.steps.taken (2 ^ 64 - 1) ≤ l.steps.taken;
  kept : (x : ℕ) → IsMember l.fn.answer x → IsMember l.answer x;
  sound : (x : ℕ) → IsMember l.answer x → IsMember l.fn.answer x ⊎ sets.children (table_graph (g.T.SegmentTable.flats l.table)) (IsMember l.set) x;
  whole : (x : ℕ) → l.below ≤ x → x < l.stretch.end → sets.children (table_graph (g.T.SegmentTable.flats l.table)) (IsMember l.set) x → IsMember l.answer x;
}

abbrev pub decreases-down : goal.decreases-down
decreases-down g l = l.below
