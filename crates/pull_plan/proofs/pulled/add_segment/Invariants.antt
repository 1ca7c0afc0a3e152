use Rattle.std.proofs.Common.{◌≤◌, ◌+◌, ◌-◌, List, max, take}
use Rattle.id_groups.specs.Lists.{IsIn}
use Rattle.id_groups.specs.Name.{Name}
use Rattle.commit_graph.specs.World.{Row, World}
use Rattle.high_segments.specs.Views.{flats_in}
use Rattle.pull_plan.specs.Taken.{AreTaken, MayWalk}
use Rattle.pull_plan.proofs.pulled.add_segment.Given as goal

abbrev pub invariant-ids : goal.invariant-ids
invariant-ids l = record {
  behind : l.newest.cloned ≤ l.id;
  inside : l.segment.low ≤ l.id;
  end : l.id ≤ max l.newest.cloned (l.segment.high + 1);
  taken : (w : World Name) (rows : List (Row Name)) → MayWalk l.newest.base (flats_in l.newest.view) l.newest.cloned l.fresh w rows → IsIn l.segment l.fresh.cloned.segments
      → AreTaken w l.newest.cloned (take (max l.newest.cloned l.segment.low) rows) l.fn.ids.items l.fn.left → AreTaken w l.newest.cloned (take l.id rows) l.ids.items l.left;
}

abbrev pub decreases-ids : goal.decreases-ids
decreases-ids l = l.segment-inside.high + 1 - l.id
