use Rattle.std.proofs.Common.{◌≡◌, drop}
use Rattle.remote_rules.specs.CloneData.{first_false, segments_fit}
use Rattle.remote_trait.proofs.broken_segments.first_bad_segment.Given as goal

abbrev pub invariant-segments : goal.invariant-segments
invariant-segments l = first_false 0 (segments_fit 0 l.segments) ≡ first_false l.k (segments_fit l.place (drop l.k l.segments))
