use Rattle.segment_levels.specs.Kept.{segments_in}
use Rattle.high_segments.proofs.Noting.{SoughtDown}
use Rattle.high_segments.proofs.children.place_of.Given as goal

abbrev pub invariant-places : goal.invariant-places
invariant-places l = SoughtDown (segments_in l.below) l.to l.id l.place

abbrev pub decreases-places : goal.decreases-places
decreases-places l = l.place
