use Rattle.std.proofs.Common.{◌≡◌, drop}
use Rattle.high_segments.specs.Views.{flats_in}
use Rattle.pull_plan.specs.Pulling.{unlike_segment}
use Rattle.pull_plan.proofs.Beside.{unlike_from}
use Rattle.pull_plan.proofs.agreeing.first_unlike_segment.Given as goal

abbrev pub invariant-segments : goal.invariant-segments
invariant-segments l = unlike_segment l.told.segments (flats_in l.view) l.below l.items ≡ unlike_from l.k (drop l.k l.told.segments) (drop l.k (flats_in l.view)) l.below l.items
