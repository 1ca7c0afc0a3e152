use Rattle.std.proofs.Common.{flat_map, take}
use Rattle.segment_codec.specs.Record.{Segment}
use Rattle.remote_answers.specs.Marks.{AreMarks}
use Rattle.remote_answers.proofs.marks.parent_marks.Given as goal

abbrev pub invariant-segments : goal.invariant-segments
invariant-segments l = AreMarks l.count (flat_map (λ (s : Segment). s.parents) (take l.i l.segments)) l.marks.items
