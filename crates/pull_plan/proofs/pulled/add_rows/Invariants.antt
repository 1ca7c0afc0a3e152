use Rattle.std.proofs.Common.{◌≡◌, List, length, max, take}
use Rattle.id_groups.specs.Name.{Name}
use Rattle.commit_graph.specs.World.{Row, World}
use Rattle.segment_codec.specs.Turns.{place_behind}
use Rattle.high_segments.specs.Views.{flats_in}
use Rattle.pull_plan.specs.Taken.{AreTaken, MayWalk}
use Rattle.pull_plan.proofs.pulled.add_rows.Given as goal

abbrev pub invariant-segments : goal.invariant-segments
invariant-segments l = (w : World Name) (rows : List (Row Name)) → MayWalk l.newest.base (flats_in l.newest.view) l.newest.cloned l.fresh w rows → l.fn.left.first ≡ length w.others
    → AreTaken w l.newest.cloned (take (max l.newest.cloned (place_behind 0 (take l.k l.fresh.cloned.segments))) rows) l.ids.items l.left
