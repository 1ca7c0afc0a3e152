use Rattle.std.proofs.Common.{◌≡◌, ◌≤◌, true}
use Rattle.segment_levels.specs.Kept.{segments_in}
use Rattle.high_segments.specs.Lone.{AreLone}
use Rattle.high_segments.proofs.Mixing.{GrownSoFar}
use Rattle.high_segments.proofs.grow.grow_all.Given as goal

abbrev pub invariant-loop-k : goal.invariant-loop-k
invariant-loop-k l = GrownSoFar l.fn.flats l.fn.levels l.below.segments l.k l.levels × (l.below.lone ≡ true → AreLone (segments_in l.below.segments) × (1 ≤ l.k))
