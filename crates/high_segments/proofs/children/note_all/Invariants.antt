use Rattle.segment_levels.specs.Kept.{segments_in}
use Rattle.high_segments.specs.Noting.{AreNoted}
use Rattle.high_segments.proofs.children.note_all.Given as goal

abbrev pub invariant-loop-k : goal.invariant-loop-k
invariant-loop-k l = AreNoted (segments_in l.below) l.k l.note
