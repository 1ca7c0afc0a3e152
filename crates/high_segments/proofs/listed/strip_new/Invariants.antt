use Rattle.std.proofs.Common.{◌≡◌, ◌++◌, List, flat_map}
use Rattle.segment_codec.specs.Record.{Segment, segment_bytes}
use Rattle.high_segments.specs.Storing.{CameSince}
use Rattle.high_segments.proofs.StoringLemmas.{new_up_to}
use Rattle.high_segments.proofs.listed.strip_new.Given as goal

abbrev pub invariant-levels : goal.invariant-levels
invariant-levels l = (old new : List Segment) → CameSince l.marks l.levels old new → l.bytes ≡ flat_map segment_bytes (new_up_to old new l.i) ++ l.rest
