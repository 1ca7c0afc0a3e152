use Rattle.std.proofs.Common.{◌≡◌, ◌++◌, ℕ, List, length, take}
use Rattle.remote_answers.specs.Marks.{AreMarks}
use Rattle.remote_answers.proofs.marks.mark.Given as goal

abbrev pub invariant-ids : goal.invariant-ids
invariant-ids l = record {
  size : length l.marks.items ≡ length l.fn.marks.items;
  marked : (count : ℕ) (before : List ℕ) → AreMarks count before l.fn.marks.items → AreMarks count (before ++ take l.id-index l.ids) l.marks.items;
}
