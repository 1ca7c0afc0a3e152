use Rattle.segment_codec.specs.Lent.{segment_of, parents_left}
use Rattle.segment_levels.specs.Kept.{segments_in}
use Rattle.high_segments.proofs.Noting.{NotesSoFar}
use Rattle.high_segments.proofs.children.note_parents.Given as goal

abbrev pub invariant-parents : goal.invariant-parents
invariant-parents l = NotesSoFar (segments_in l.below) l.place (segment_of l.fn.segment).parents (parents_left l.rest) l.fn.note l.note
