use Rattle.std.proofs.Common.{◌≤◌, length, take}
use Rattle.std.specs.List.{AllByRecursion}
use Rattle.segment_codec.specs.Record.{Segment}
use Rattle.pull_plan.proofs.pulled.count_parents.Given as goal

abbrev pub invariant-segments : goal.invariant-segments
invariant-segments l = AllByRecursion (λ (s : Segment). length s.parents ≤ 8) (take l.k l.told.segments)
