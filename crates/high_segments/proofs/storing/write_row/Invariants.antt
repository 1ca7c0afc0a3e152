use Rattle.std.proofs.Common.{◌≡◌, ◌++◌, flat_map, take}
use Rattle.segment_codec.specs.Record.{segment_bytes}
use Rattle.segment_levels.specs.Kept.{segments_in}
use Rattle.high_segments.proofs.storing.write_row.Given as goal

abbrev pub invariant-segments : goal.invariant-segments
invariant-segments l = l.out.items ≡ l.fn.out.items ++ flat_map segment_bytes (take l.i (segments_in l.run))
