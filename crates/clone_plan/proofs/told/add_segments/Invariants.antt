use Rattle.std.proofs.Common.{◌≡◌, ◌≤◌, ◌++◌, length, take}
use Rattle.std.specs.List.{AllByRecursion}
use Rattle.segment_codec.specs.Record.{Segment}
use Rattle.batch_codec.specs.Payload.{Payload}
use Rattle.batch_codec.specs.Building.{IsBuilt}
use Rattle.clone_plan.proofs.told.add_segments.Given as goal

abbrev pub invariant-segments : goal.invariant-segments
invariant-segments l = record {
  built : (p : Payload) → IsBuilt l.fn.build p → IsBuilt l.build (record p { master = p.master ++ take l.i l.segments });
  formed : AllByRecursion (λ (s : Segment). (s.level ≡ 0) × (length s.parents ≤ 8)) (take l.i l.segments);
  count : l.build.other_count ≡ l.fn.build.other_count;
}
