use Rattle.std.proofs.Common.{◌≡◌, ◌≤◌, ◌*◌, ◌++◌, List, flat_map, length}
use Rattle.segment_codec.specs.Record.{Segment, segment_bytes}
use Rattle.high_segments.specs.Storing.{CameSince}
use Rattle.high_segments.proofs.StoringLemmas.{new_up_to}
use Rattle.high_segments.proofs.storing.write_new.Given as goal

abbrev pub invariant-levels : goal.invariant-levels
invariant-levels l = record {
  written : (old new : List Segment) → CameSince l.marks l.levels old new → l.out.items ≡ l.fn.out.items ++ flat_map segment_bytes (new_up_to old new l.i);
  counted : (old new : List Segment) → CameSince l.marks l.levels old new → l.count ≡ length (new_up_to old new l.i);
  few : l.count ≤ l.i * 16777216;
}
