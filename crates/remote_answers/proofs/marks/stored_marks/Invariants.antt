use Rattle.std.proofs.Common.{flat_map, take}
use Rattle.remote_answers.specs.Marks.{AreMarks, stored_by}
use Rattle.remote_answers.proofs.marks.stored_marks.Given as goal

abbrev pub invariant-segments : goal.invariant-segments
invariant-segments l = AreMarks l.count (flat_map stored_by (take l.i l.segments)) l.marks.items
