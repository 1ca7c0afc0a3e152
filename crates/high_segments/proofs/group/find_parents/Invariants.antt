use Rattle.std.proofs.Common.{◌≡◌, take, drop}
use Rattle.segment_rules.specs.Levels.{parents_below}
use Rattle.segment_levels.specs.Kept.{segments_in}
use Rattle.high_segments.proofs.group.find_parents.Given as goal

abbrev pub invariant-loop-k : goal.invariant-loop-k
invariant-loop-k l = l.found.items ≡ parents_below l.low (take l.k (drop l.from (segments_in l.below)))
