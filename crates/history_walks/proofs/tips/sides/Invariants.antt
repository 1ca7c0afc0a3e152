use Rattle.std.proofs.Common.{◌≡◌, ◌++◌, ◌≤◌, ◌-◌, ◌^◌, ℕ, List, length, min}
use Rattle.std.specs.List.{AllZip}
use Rattle.span_set.specs.Members.{ids_of}
use Rattle.span_set.specs.Down.{ids_left}
use Rattle.ancestor_query.specs.Graph.{table_graph}
use Rattle.history_walks.specs.Sides.{AreSidesOf}
use Rattle.history_walks.proofs.tips.sides.Given as goal

abbrev pub invariant-tips : goal.invariant-tips
invariant-tips g l = record {
  done : List ℕ;
  split : ids_of l.tips ≡ done ++ ids_left l.rest;
  each : AllZip (AreSidesOf (table_graph (g.T.SegmentTable.flats l.table)) l.base) done l.all.items;
  counted : min l.fn.steps.taken (2 ^ 64 - 1) ≤ l.steps.taken;
}

abbrev pub decreases-tips : goal.decreases-tips
decreases-tips g l = length (ids_left l.rest)
